use Rattle.std.proofs.Common.{◌≡◌, Ok, Err, rules}
use Rattle.wasm_module_context.proofs.Adding.{adds_more, fails_later, fails_here, fails_read}
use Rattle.wasm_module_context.proofs.items.add_items.Goals as goal

pub items-preserved : goal.items-preserved
items-preserved g c =
    let old = c.items.items in
    let new = c.next.new.self in
    let item : c.in-Some.item ≡ Ok (c.in-Ok.offset, c.in-Ok.part) = search rules in
    let steps = rw item at c.in-Some.ensures.steps in
    record {
      open_ = steps.1.1;
      adds = λ d more. c.items.invariant.adds d (adds_more g.T.AddToContext.adds g.T.AddToContext.refuses g.T.Read.grammar old.remaining new.remaining old.reader new.reader
          c.items.context c.in-Ok-add_to.more d c.in-Ok.part steps.1.2 steps.1.3 c.in-Ok-add_to.ensures.added more);
      fails = λ e more. c.items.invariant.fails e (fails_later g.T.AddToContext.adds g.T.AddToContext.refuses g.T.Read.grammar old.remaining new.remaining old.reader new.reader
          c.items.context c.in-Ok-add_to.more c.in-Ok.part e steps.1.2 steps.1.3 c.in-Ok-add_to.ensures.added more);
    }

pub returns-in-Err-add_to-clause-refused : goal.returns-in-Err-add_to-clause-refused
returns-in-Err-add_to-clause-refused g c =
    let old = c.items.items in
    let new = c.next.new.self in
    let item : c.in-Some.item ≡ Ok (c.in-Ok.offset, c.in-Ok.part) = search rules in
    let steps = rw item at c.in-Some.ensures.steps in
    c.items.invariant.fails c.in-Err-add_to.e (fails_here g.T.AddToContext.adds g.T.AddToContext.refuses g.T.Read.grammar old.remaining new.remaining old.reader new.reader
    c.items.context c.in-Ok.part c.in-Ok.offset c.in-Err-add_to.e steps.1.2 steps.1.3 steps.0 c.in-Err-add_to.ensures.refused)

pub returns-in-Err-clause-refused : goal.returns-in-Err-clause-refused
returns-in-Err-clause-refused g c =
    let item : c.in-Some.item ≡ Err c.in-Err.e = search rules in
    let steps = rw item at c.in-Some.ensures.steps in
    c.items.invariant.fails _ (fails_read g.T.AddToContext.adds g.T.AddToContext.refuses g.T.Read.grammar c.items.items.remaining c.items.items.reader c.items.context c.in-Err.e steps.2)
