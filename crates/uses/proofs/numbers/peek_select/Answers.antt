use Rattle.wasm_operators.specs.imm.HandlerTables.{EncodesSelect, SelectAllocates}
use Rattle.wasm_operators.specs.imm.ListFaults.{SelectFault}
use Rattle.uses.proofs.Codes.{value_known, refused_value_known}
use Rattle.uses.proofs.numbers.peek_select.Goals as goal

pub returns-clause-reads : goal.returns-clause-reads
returns-clause-reads c = λ value text more parts known.
    let reads = rw c.clone.ensures at c.read.ensures in
    value_known EncodesSelect SelectFault SelectAllocates c.read.result c.args.reader.now _ value text more c.select_types.ensures reads parts known

pub returns-clause-refused : goal.returns-clause-refused
returns-clause-refused c = λ m offset known.
    let reads = rw c.clone.ensures at c.read.ensures in
    refused_value_known EncodesSelect SelectFault SelectAllocates c.read.result c.args.reader.now _ m offset c.control_refusals.ensures.select reads known
