use Rattle.std.proofs.Common.{◌≡◌, Ok, Err, rules}
use Rattle.wasm_module_context.proofs.AddingAll.{adds_more, fails_later, fails_here, fails_parsing}
use Rattle.wasm_module_context.proofs.modules.add_payloads.Goals as goal

pub payloads-preserved : goal.payloads-preserved
payloads-preserved c =
    let item : c.in-Some.item ≡ Ok c.in-Ok.payload = search rules in
    let steps = rw item at c.in-Some.ensures.steps in
    let added = c.in-Ok-add_payload.ensures in
    record {
      adds = λ d more. c.payloads.invariant.adds d (adds_more c.payloads.payloads c.next.new.self c.payloads.context c.in-Ok-add_payload.more d c.in-Ok.payload steps added more);
      fails = λ e more. c.payloads.invariant.fails e (fails_later c.payloads.payloads c.next.new.self c.payloads.context c.in-Ok-add_payload.more e c.in-Ok.payload steps added more);
    }

pub returns-in-Err-add_payload-clause-refused : goal.returns-in-Err-add_payload-clause-refused
returns-in-Err-add_payload-clause-refused c =
    let item : c.in-Some.item ≡ Ok c.in-Ok.payload = search rules in
    let steps = rw item at c.in-Some.ensures.steps in
    c.payloads.invariant.fails c.in-Err-add_payload.e (fails_here c.payloads.payloads c.next.new.self c.payloads.context c.in-Err-add_payload.e c.in-Ok.payload steps c.in-Err-add_payload.ensures)

pub returns-in-Err-clause-refused : goal.returns-in-Err-clause-refused
returns-in-Err-clause-refused c =
    let item : c.in-Some.item ≡ Err c.in-Err.e = search rules in
    let steps = rw item at c.in-Some.ensures.steps in
    c.payloads.invariant.fails _ (fails_parsing c.payloads.payloads c.payloads.context c.in-Err.e steps.0)
