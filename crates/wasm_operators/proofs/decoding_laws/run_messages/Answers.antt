use Rattle.wasm_operators.specs.Next.{all_operators, collecting, scalar_operators}
use Rattle.wasm_operators.proofs.Ends.{reports_closed, reports_left}
use Rattle.wasm_operators.proofs.DecoderPremises.{is_reading, scalar_is_reading}
use Rattle.wasm_operators.proofs.decoding_laws.run_messages.Goals as goal

pub returns-clause-closed : goal.returns-clause-closed
returns-clause-closed c = reports_closed collecting is_reading

pub returns-clause-left : goal.returns-clause-left
returns-clause-left c = reports_left collecting is_reading

pub returns-clause-visits_closed : goal.returns-clause-visits_closed
returns-clause-visits_closed c = reports_closed all_operators is_reading

pub returns-clause-visits_left : goal.returns-clause-visits_left
returns-clause-visits_left c = reports_left all_operators is_reading

pub returns-clause-scalar_closed : goal.returns-clause-scalar_closed
returns-clause-scalar_closed c = reports_closed scalar_operators scalar_is_reading

pub returns-clause-scalar_left : goal.returns-clause-scalar_left
returns-clause-scalar_left c = reports_left scalar_operators scalar_is_reading
