use Rattle.std.specs.Int.{w32}
use Rattle.wasm_below.specs.FromReader.{ReaderFault}
use Rattle.wasm_below.specs.Number.{EncodesFixed}
use Rattle.wasm_below.specs.Source.{IsByte, EndFault, EndsWithin}
use Rattle.wasm_below.proofs.DeterminedRefusals.{then_determines, end_determines}
use Rattle.wasm_below.proofs.PrefixCode.{byte_prefix_code}
use Rattle.wasm_module.proofs.Named.{short_determines}
use Rattle.wasm_module.proofs.module_laws.refusals.Goals as goal

pub returns-clause-preamble : goal.returns-clause-preamble
returns-clause-preamble c =
    then_determines (EncodesFixed w32) (EndsWithin 4) (λ magic. EndsWithin 4) c.fixed_numbers.ensures.four (short_determines 4) (λ magic. short_determines 4)

pub returns-clause-section : goal.returns-clause-section
returns-clause-section c = then_determines IsByte EndFault (λ id. ReaderFault) byte_prefix_code end_determines (λ id. c.part_refusals.ensures)
