use Rattle.wasm_operators.proofs.Runs.{fresh_before}
use Rattle.wasm_operators.proofs.run_laws.fresh_readers.Goals as goal

pub returns : goal.returns
returns c = λ s fresh. fresh_before s fresh
