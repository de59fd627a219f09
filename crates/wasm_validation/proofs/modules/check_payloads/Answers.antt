use Rattle.std.proofs.Common.{◌≡◌, Ok, Err, rules}
use Rattle.wasm_validation.proofs.Checking.{valid_more, stops_later, stops_here, stops_parsing}
use Rattle.wasm_validation.proofs.modules.check_payloads.Goals as goal

pub payloads-preserved : goal.payloads-preserved
payloads-preserved c =
    let item : c.in-Some.item ≡ Ok c.in-Ok.payload = search rules in
    let steps = rw item at c.in-Some.ensures.steps in
    let checked = c.in-Ok-check_payload.ensures.checked in
    record {
      valid = λ more. c.payloads.invariant.valid (valid_more c.payloads.payloads c.next.new.self c.payloads.stage c.in-Ok-check_payload.next c.in-Ok.payload steps checked more);
      stops = λ f more. c.payloads.invariant.stops f (stops_later c.payloads.payloads c.next.new.self c.payloads.stage c.in-Ok-check_payload.next f c.in-Ok.payload steps checked more);
    }

pub returns-in-Err-check_payload-clause-refused : goal.returns-in-Err-check_payload-clause-refused
returns-in-Err-check_payload-clause-refused c =
    let item : c.in-Some.item ≡ Ok c.in-Ok.payload = search rules in
    let steps = rw item at c.in-Some.ensures.steps in
    c.payloads.invariant.stops c.in-Err-check_payload.fault (stops_here c.payloads.payloads c.next.new.self c.payloads.stage c.in-Err-check_payload.fault c.in-Ok.payload steps c.in-Err-check_payload.ensures.refused)

pub returns-in-Err-clause-refused : goal.returns-in-Err-clause-refused
returns-in-Err-clause-refused c =
    let item : c.in-Some.item ≡ Err c.in-Err.e = search rules in
    let steps = rw item at c.in-Some.ensures.steps in
    c.payloads.invariant.stops _ (stops_parsing c.payloads.payloads c.payloads.stage c.in-Err.e steps.0)
