use Rattle.wasm_below.proofs.Ahead.{stays, advances}
use Rattle.wasm_imm.specs.BranchTableFaults.{BranchTableFault}
use Rattle.wasm_imm.specs.BranchTables.{EncodesBranchTable}
use Rattle.wasm_imm.proofs.BranchTables.{count_fails, targets_fail, default_fails, table_read}
use Rattle.wasm_imm.proofs.branch_table.BrTable.read.Goals as goal

pub returns-in_err-count : goal.returns-in_err-count
returns-in_err-count c =
    let h = c.in_err-count.ensures in
    stays EncodesBranchTable BranchTableFault _ c.clone-ahead.ensures c.from_residual.ensures.1 (count_fails (h.1, h.2))

pub returns-in_err-size : goal.returns-in_err-size
returns-in_err-size c =
    stays EncodesBranchTable BranchTableFault _ c.clone-ahead.ensures c.from_residual-in_err-size.ensures.1
    (targets_fail _ _ _ c.in_ok-count.ensures c.in_err-size.ensures)

pub returns-in_err-default : goal.returns-in_err-default
returns-in_err-default c =
    let h = c.in_err-default.ensures in
    stays EncodesBranchTable BranchTableFault _ c.clone-ahead.ensures c.from_residual-in_err-default.ensures.1
    (default_fails _ _ _ c.in_ok-count.ensures _ _ c.in_ok-size.ensures (h.1, h.2))

pub returns : goal.returns
returns c =
    advances EncodesBranchTable c.clone-ahead.ensures
    (table_read _ _ _ c.in_ok-count.ensures _ _ _ _ _ c.remaining_buffer-bytes.ensures c.in_ok-size.ensures c.in_ok-default.ensures)
