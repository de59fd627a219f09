use Rattle.wasm_imm.proofs.ControlEquality.{block_exact, table_exact, try_exact, resume_exact}
use Rattle.wasm_imm.proofs.control_laws.equality.Goals as goal

pub returns-clause-block : goal.returns-clause-block
returns-clause-block c = block_exact

pub returns-clause-table : goal.returns-clause-table
returns-clause-table c = table_exact

pub returns-clause-catches : goal.returns-clause-catches
returns-clause-catches c = try_exact

pub returns-clause-clauses : goal.returns-clause-clauses
returns-clause-clauses c = resume_exact
