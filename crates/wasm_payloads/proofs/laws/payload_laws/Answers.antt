use Rattle.wasm_payloads.proofs.Determined.{one_module, next_payload, payload_or_error}
use Rattle.wasm_payloads.proofs.laws.payload_laws.Goals as goal

pub returns-clause-one : goal.returns-clause-one
returns-clause-one c = one_module

pub returns-clause-next : goal.returns-clause-next
returns-clause-next c = next_payload

pub returns-clause-errors : goal.returns-clause-errors
returns-clause-errors c = payload_or_error
