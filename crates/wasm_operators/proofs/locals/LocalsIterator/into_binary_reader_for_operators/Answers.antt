use Rattle.std.proofs.Common.{◌≡◌, sym, subst, ap, ◌∙◌}
use Rattle.wasm_operators.specs.Locals.{LocalsLeft, IsPastLocals, IsResultPastLocals}
use Rattle.wasm_operators.proofs.Steps.{stepped_past, result_past}
use Rattle.wasm_operators.proofs.locals.LocalsIterator.into_binary_reader_for_operators.Goals as goal

pub returns-clause-after : goal.returns-clause-after
returns-clause-after c =
    let is : c.args.self.locals.reader ≡ c.get_binary_reader.result = ap (λ (z : LocalsLeft). z.locals.reader) (sym c.self.view_is) ∙
    sym c.get_binary_reader.ensures in
    λ body declarations steps. subst (IsPastLocals declarations body) is (stepped_past body declarations c.args.self steps c.requires)

pub returns-clause-outcome : goal.returns-clause-outcome
returns-clause-outcome c =
    let is : c.args.self.locals.reader ≡ c.get_binary_reader.result = ap (λ (z : LocalsLeft). z.locals.reader) (sym c.self.view_is) ∙
    sym c.get_binary_reader.ensures in
    λ body declarations steps. subst (λ r. IsResultPastLocals r body) is
    (result_past c.args.self.locals.reader body declarations (stepped_past body declarations c.args.self steps c.requires))
