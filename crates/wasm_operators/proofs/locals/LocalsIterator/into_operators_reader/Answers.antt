use Rattle.std.proofs.Common.{◌≡◌, sym, subst, ap, ◌∙◌}
use Rattle.wasm_operators.specs.Locals.{LocalsLeft, IsPastLocals}
use Rattle.wasm_operators.proofs.Steps.{stepped_past}
use Rattle.wasm_operators.proofs.locals.LocalsIterator.into_operators_reader.Goals as goal

pub returns-clause-after : goal.returns-clause-after
returns-clause-after c =
    let is : c.args.self.locals.reader ≡ c.new.result.reader = ap (λ (z : LocalsLeft). z.locals.reader) (sym c.self.view_is) ∙
    sym (c.new.ensures.reader ∙ c.get_binary_reader.ensures) in
    λ body declarations none steps. subst (IsPastLocals declarations body) is (stepped_past body declarations c.args.self steps none)
