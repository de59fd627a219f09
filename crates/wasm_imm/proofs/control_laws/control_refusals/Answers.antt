use Rattle.wasm_imm.proofs.DeterminedControlRefusals.{block_determines, branch_determines, cast_determines, select_determines}
use Rattle.wasm_imm.proofs.control_laws.control_refusals.Goals as goal

pub returns-clause-block : goal.returns-clause-block
returns-clause-block c = block_determines

pub returns-clause-table : goal.returns-clause-table
returns-clause-table c = branch_determines

pub returns-clause-cast : goal.returns-clause-cast
returns-clause-cast c = cast_determines

pub returns-clause-select : goal.returns-clause-select
returns-clause-select c = select_determines
