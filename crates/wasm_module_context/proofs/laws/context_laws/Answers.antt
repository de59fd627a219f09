use Rattle.wasm_module_context.proofs.OnePayload.{one_after, added_or_fails}
use Rattle.wasm_module_context.proofs.laws.context_laws.Goals as goal

pub returns-clause-one : goal.returns-clause-one
returns-clause-one c = one_after

pub returns-clause-errors : goal.returns-clause-errors
returns-clause-errors c = added_or_fails
