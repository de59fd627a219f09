use Rattle.std.proofs.Common.{◌≡◌, [], ◌∷◌, ◌++◌, Ok, Err, refl, sym, subst, ◌∙◌, rules}
use Rattle.wasm_below.specs.declared.message.Message.TheVariants as message
use Rattle.wasm_sections.specs.Items.{items}
use Rattle.wasm_grammars.proofs.Steps.{begins, fails_first}
use Rattle.wasm_sections.proofs.AllItems.{HasItems, fails_all, all_failed, items_first, items_next, items_memory, items_end, items_fail}
use Rattle.wasm_sections.proofs.whole.read_items.Goals as goal

pub returns-in_err-section : goal.returns-in_err-section
returns-in_err-section g c =
    all_failed _ c.from_residual.ensures.1
    (fails_all message.DataAfterSection (fails_first (begins (items (g.T.Read.grammar c.args.contents.features)) refl) c.in_err-section.ensures.refused))

pub items-init : goal.items-init
items-init g c =
    rw (c.into_iter-items.ensures.into_iter_gives, c.new-found.ensures.items)
    (items_first g.T.Read.grammar c.args.contents _ refl c.in_ok-section.ensures.count c.is_within.ensures)

pub items-preserved : goal.items-preserved
items-preserved g c =
    let value = c.in_ok-value.value in
    let pushed : c.push.new.self.items ≡ c.items.found.items ++ value ∷ [] = search rules in
    let item : c.in-Some.item ≡ Ok value = search rules in
    let steps = rw item at c.in-Some.ensures.steps in
    subst (HasItems g.T.Read.grammar c.args.contents c.next.new.self) (sym pushed)
    (items_next g.T.Read.grammar c.args.contents c.items.items c.next.new.self c.items.found.items value c.items.invariant steps.1 steps.2 steps.3)

pub returns-in_err-value : goal.returns-in_err-value
returns-in_err-value g c =
    let e = c.in_err-value.field-0.0 in
    let item : c.in-Some.item ≡ Err e = search rules in
    let steps = rw item at c.in-Some.ensures.steps in
    all_failed _ c.from_residual-in_err-value.ensures.1 (items_fail g.T.Read.grammar c.args.contents c.items.items c.items.found.items e c.items.invariant steps.2)

pub returns-then-is_err : goal.returns-then-is_err
returns-then-is_err g c =
    let value = c.in_ok-value.value in
    let item : c.in-Some.item ≡ Ok value = search rules in
    let steps = rw item at c.in-Some.ensures.steps in
    items_memory g.T.Read.grammar c.args.contents c.items.items c.next.new.self c.items.found.items value c.items.invariant steps.2 steps.3 c.new-then-is_err.ensures.message
    (c.new-then-is_err.ensures.offset ∙ c.original_position-start.ensures)

pub returns : goal.returns
returns g c =
    rw c.from_vec.ensures (items_end g.T.Read.grammar c.args.contents c.items.items c.items.found.items c.items.invariant c.in_default.ensures.steps.1)
