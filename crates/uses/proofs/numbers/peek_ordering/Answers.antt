use Rattle.wasm_operators.specs.imm.Orderings.{EncodesOrderingByte, OrderingByteFault}
use Rattle.uses.proofs.Codes.{reads_known, fault_known}
use Rattle.uses.proofs.numbers.peek_ordering.Goals as goal

pub returns-clause-reads : goal.returns-clause-reads
returns-clause-reads c = λ value text more parts known.
    let reads = rw c.clone.ensures at c.read.ensures in
    reads_known EncodesOrderingByte OrderingByteFault c.read.result c.args.reader.now _ value text more c.orderings.ensures.alone reads parts known

pub returns-clause-refused : goal.returns-clause-refused
returns-clause-refused c = λ m offset known.
    let reads = rw c.clone.ensures at c.read.ensures in
    fault_known EncodesOrderingByte OrderingByteFault c.read.result c.args.reader.now _ m offset c.short_refusals.ensures.ordering reads known
