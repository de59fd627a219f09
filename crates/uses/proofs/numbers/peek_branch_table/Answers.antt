use Rattle.wasm_operators.specs.imm.BranchTables.{EncodesBranchTable}
use Rattle.wasm_operators.specs.imm.BranchTableFaults.{BranchTableFault}
use Rattle.uses.proofs.Codes.{reads_known, fault_known}
use Rattle.uses.proofs.numbers.peek_branch_table.Goals as goal

pub returns-clause-reads : goal.returns-clause-reads
returns-clause-reads c = λ table text more parts known.
    let reads = rw c.clone.ensures at c.read.ensures in
    reads_known EncodesBranchTable BranchTableFault c.read.result c.args.reader.now _ table text more c.branch_tables.ensures reads parts known

pub returns-clause-refused : goal.returns-clause-refused
returns-clause-refused c = λ m offset known.
    let reads = rw c.clone.ensures at c.read.ensures in
    fault_known EncodesBranchTable BranchTableFault c.read.result c.args.reader.now _ m offset c.control_refusals.ensures.table reads known
