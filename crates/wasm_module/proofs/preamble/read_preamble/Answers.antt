use Rattle.std.specs.Int.{w32}
use Rattle.wasm_below.specs.Number.{EncodesFixed}
use Rattle.wasm_below.specs.Source.{EndsWithin}
use Rattle.wasm_module.specs.declared.preamble.Preamble.{Preamble}
use Rattle.wasm_module.specs.Module.{EncodesPreamble, PreambleFault}
use Rattle.wasm_below.proofs.Ahead.{stays, advances}
use Rattle.wasm_module.proofs.Sequences.{both_read, both_first, both_second}
use Rattle.wasm_module.proofs.preamble.read_preamble.Goals as goal

pub returns-in_err-magic : goal.returns-in_err-magic
returns-in_err-magic c =
    let h = c.in_err-magic.ensures in
    stays EncodesPreamble PreambleFault _ c.clone-ahead.ensures c.from_residual.ensures.1
    (both_first (EncodesFixed w32) (EncodesFixed w32) (EndsWithin 4) (λ magic. EndsWithin 4) (λ (p : Preamble). (p.magic, p.version)) (h.1, h.2))

pub returns-in_err-version : goal.returns-in_err-version
returns-in_err-version c =
    let h = c.in_err-version.ensures in
    stays EncodesPreamble PreambleFault _ c.clone-ahead.ensures c.from_residual-in_err-version.ensures.1
    (both_second (EncodesFixed w32) (EncodesFixed w32) (EndsWithin 4) (λ magic. EndsWithin 4) (λ (p : Preamble). (p.magic, p.version)) c.fixed_numbers.ensures.four c.in_ok-magic.ensures
    (h.1, h.2))

pub returns : goal.returns
returns c =
    advances EncodesPreamble c.clone-ahead.ensures
    (both_read (EncodesFixed w32) (EncodesFixed w32) c.in_ok-magic.ensures c.in_ok-version.ensures)
