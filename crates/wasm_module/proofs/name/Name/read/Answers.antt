use Rattle.wasm_below.specs.Number.{EncodesUnsigned}
use Rattle.wasm_below.specs.Source.{EndsWithin, U32Fault}
use Rattle.wasm_module.specs.Names.{IsBytes, EncodesName, NameFault}
use Rattle.wasm_below.proofs.Ahead.{first_fails, second_fails, stays, advances}
use Rattle.wasm_module.proofs.Named.{bytes_refused}
use Rattle.wasm_module.proofs.Sequences.{then_read}
use Rattle.wasm_module.proofs.name.Name.read.Goals as goal

pub returns-in_err-length : goal.returns-in_err-length
returns-in_err-length c =
    let h = c.in_err-length.ensures in
    stays EncodesName NameFault _ c.clone-ahead.ensures c.from_residual.ensures.1
    (first_fails (EncodesUnsigned 32) IsBytes U32Fault EndsWithin (h.1, h.2))

pub returns-in_err-bytes : goal.returns-in_err-bytes
returns-in_err-bytes c =
    let h = c.in_err-bytes.ensures in
    stays EncodesName NameFault _ c.clone-ahead.ensures c.from_residual-in_err-bytes.ensures.1
    (second_fails (EncodesUnsigned 32) IsBytes U32Fault EndsWithin (c.unsigned_numbers.ensures 32) c.in_ok-length.ensures
    (bytes_refused c.in_ok-length.length (h.1, h.2)))

pub returns : goal.returns
returns c =
    advances EncodesName c.clone-ahead.ensures
    (then_read (EncodesUnsigned 32) IsBytes c.in_ok-length.ensures c.in_ok-bytes.ensures)
