use Rattle.wasm_operators.specs.below.Number.{EncodesSigned}
use Rattle.wasm_operators.specs.below.Source.{I32Fault}
use Rattle.uses.proofs.Codes.{reads_known}
use Rattle.uses.proofs.numbers.peek_i32.Goals as goal

pub returns : goal.returns
returns c = λ n text more parts known.
    let reads = rw c.clone.ensures at c.read_var_i32.ensures in
    reads_known (EncodesSigned 32) I32Fault c.read_var_i32.result c.args.reader.now _ n text more (c.signed_numbers.ensures 32) reads parts known
