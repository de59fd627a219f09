use Rattle.std.proofs.Common.{◌≡◌, Ok, Err, inl, inr, refl}
use Rattle.wasm_index_names.proofs.Given.{gives_none, gives_more}
use Rattle.wasm_index_names.proofs.items.give_items.Goals as goal

pub items-init : goal.items-init
items-init g c = rw c.into_iter-items.ensures.into_iter_gives (gives_none g.T.Read.grammar g.T.Gives.gives c.args.section c.args.state.now, refl)

pub items-preserved : goal.items-preserved
items-preserved g c =
    let x = c.in-Ok.item in
    let (w, going) = c.items.invariant in
    let item : c.in-Some.item ≡ Ok x = c.in-Ok.is in
    let steps = rw item at c.in-Some.ensures.steps in (
      gives_more g.T.Read.grammar g.T.Gives.gives c.args.section c.items.items c.next.new.self x c.args.state.now c.items.state c.give.new.state w steps.2 steps.3
          c.in_default-give.ensures,
      steps.1,
    )

pub returns-in-Err : goal.returns-in-Err
returns-in-Err g c =
    let (w, going) = c.items.invariant in
    let item : c.in-Some.item ≡ Err c.in-Err.field-0 = c.in-Err.is in
    let steps = rw item at c.in-Some.ensures.steps in
    (c.items.items, w, inr (c.in-Err.field-0, steps.2))

pub returns : goal.returns
returns g c = let (w, going) = c.items.invariant in (c.items.items, w, inl c.in_default.ensures.steps.1)
