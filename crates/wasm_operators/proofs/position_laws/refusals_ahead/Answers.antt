use Rattle.wasm_operators.specs.Next.{all_operators, collecting, scalar_operators}
use Rattle.wasm_operators.proofs.Offsets.{read_ahead, finish_ahead, run_ahead}
use Rattle.wasm_operators.proofs.position_laws.refusals_ahead.Goals as goal

pub returns-clause-read : goal.returns-clause-read
returns-clause-read c = read_ahead all_operators

pub returns-clause-scalar_read : goal.returns-clause-scalar_read
returns-clause-scalar_read c = read_ahead scalar_operators

pub returns-clause-finish : goal.returns-clause-finish
returns-clause-finish c = finish_ahead

pub returns-clause-reads : goal.returns-clause-reads
returns-clause-reads c = run_ahead collecting

pub returns-clause-visits : goal.returns-clause-visits
returns-clause-visits c = run_ahead all_operators

pub returns-clause-scalar_visits : goal.returns-clause-scalar_visits
returns-clause-scalar_visits c = run_ahead scalar_operators
