use Rattle.wasm_operators.specs.imm.BlockTypes.{EncodesBlockType}
use Rattle.wasm_operators.specs.imm.BlockTypeFaults.{BlockTypeFault}
use Rattle.uses.proofs.Codes.{reads_known, reads_some, fault_known}
use Rattle.uses.proofs.numbers.peek_block_type.Goals as goal

pub returns-clause-reads : goal.returns-clause-reads
returns-clause-reads c = λ ty text more parts known.
    let reads = rw c.clone.ensures at c.read.ensures in
    reads_known EncodesBlockType BlockTypeFault c.read.result c.args.reader.now _ ty text more c.block_types.ensures reads parts known

pub returns-clause-refused : goal.returns-clause-refused
returns-clause-refused c = λ m offset known.
    let reads = rw c.clone.ensures at c.read.ensures in
    fault_known EncodesBlockType BlockTypeFault c.read.result c.args.reader.now _ m offset c.control_refusals.ensures.block reads known

pub returns-clause-found : goal.returns-clause-found
returns-clause-found c =
    let reads = rw c.clone.ensures at c.read.ensures in
    reads_some EncodesBlockType BlockTypeFault c.read.result c.args.reader.now _ reads
