use Rattle.wasm_operators.specs.below.Number.{EncodesUnsigned}
use Rattle.wasm_operators.specs.below.Source.{U32Fault}
use Rattle.uses.proofs.Codes.{reads_known, reads_some, fault_known}
use Rattle.uses.proofs.numbers.peek_index.Goals as goal

pub returns-clause-reads : goal.returns-clause-reads
returns-clause-reads c = λ n text more parts known.
    let reads = rw c.clone.ensures at c.read_var_u32.ensures in
    reads_known (EncodesUnsigned 32) U32Fault c.read_var_u32.result c.args.reader.now _ n text more (c.unsigned_numbers.ensures 32) reads parts known

pub returns-clause-refused : goal.returns-clause-refused
returns-clause-refused c = λ m offset known.
    let reads = rw c.clone.ensures at c.read_var_u32.ensures in
    fault_known (EncodesUnsigned 32) U32Fault c.read_var_u32.result c.args.reader.now _ m offset (c.number_refusals.ensures.any 32 _) reads known

pub returns-clause-found : goal.returns-clause-found
returns-clause-found c =
    let reads = rw c.clone.ensures at c.read_var_u32.ensures in
    reads_some (EncodesUnsigned 32) U32Fault c.read_var_u32.result c.args.reader.now _ reads
