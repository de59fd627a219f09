use Rattle.std.proofs.Common.{◌≡◌, [], ◌∷◌, ◌++◌, false, Ok, Err, sym, subst, rules}
use Rattle.std.proofs.lemmas.Result.{err_from_is_err_and}
use Rattle.wasm_operators.specs.below.Number.{EncodesUnsigned}
use Rattle.wasm_operators.specs.below.Source.{U32Fault}
use Rattle.uses.proofs.Items.{HasFound, reads_first, reads_on, reads_all, number_there, left_there, stops_memory}
use Rattle.uses.proofs.sections.read_indices.Goals as goal

pub items-init : goal.items-init
items-init c =
    let count = c.in_ok-section.ensures.count in
    let first = reads_first (EncodesUnsigned 32) c.args.reader c.in_ok-section.section count.0 count.1 count.2.parts in
    rw (c.into_iter-items.ensures.into_iter_gives, c.new-indices.ensures.items) first

pub items-preserved : goal.items-preserved
items-preserved c =
    let index = c.in_ok-index.index in
    let pushed : c.push.new.self.items ≡ c.items.indices.items ++ index ∷ [] = search rules in
    let item : c.in-Some.item ≡ Ok index = search rules in
    let steps = rw item at c.in-Some.ensures.steps in
    let next = reads_on (EncodesUnsigned 32) c.args.reader c.items.items c.next.new.self c.items.indices.items index steps.3.0
    c.items.invariant steps.1 steps.2 steps.3.1 steps.3.2.parts in
    subst (HasFound (EncodesUnsigned 32) c.args.reader c.next.new.self) (sym pushed) next

pub returns-in_err-section-clause-only : goal.returns-in_err-section-clause-only
returns-in_err-section-clause-only c = λ indices encodes.
    let p = err_from_is_err_and c.from_residual.result c.from_residual.ensures.1 in
    rw (p.1, p.2) (number_there (EncodesUnsigned 32) c.args.reader c.in_err-section.field-0.0 indices c.in_err-section.ensures.refused encodes)

pub returns-in_err-index-clause-only : goal.returns-in_err-index-clause-only
returns-in_err-index-clause-only c = λ indices encodes.
    let p = err_from_is_err_and c.from_residual-in_err-index.result c.from_residual-in_err-index.ensures.1 in
    let e = c.in_err-index.field-0.0 in
    let item : c.in-Some.item ≡ Err e = search rules in
    let steps = rw item at c.in-Some.ensures.steps in
    let code = c.unsigned_numbers.ensures 32 in
    let left = left_there (EncodesUnsigned 32) c.args.reader c.items.items c.items.indices.items indices code code c.items.invariant encodes in
    rw (p.1, p.2) (stops_memory (EncodesUnsigned 32) U32Fault (λ r. ⊥) e c.items.items left steps.2)

pub returns-clause-found : goal.returns-clause-found
returns-clause-found c = reads_all (EncodesUnsigned 32) c.args.reader c.items.items c.items.indices.items c.items.invariant c.in_default.ensures.steps.1
