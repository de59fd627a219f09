use Rattle.wasm_below.proofs.DeterminedRefusals.{number_determines, s33_determines, count_determines}
use Rattle.wasm_below.proofs.byte_laws.number_refusals.Goals as goal

pub returns-clause-any : goal.returns-clause-any
returns-clause-any c = number_determines

pub returns-clause-index : goal.returns-clause-index
returns-clause-index c = s33_determines

pub returns-clause-count : goal.returns-clause-count
returns-clause-count c = count_determines
