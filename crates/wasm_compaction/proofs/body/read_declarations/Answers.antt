use Rattle.std.proofs.Common.{◌≡◌, [], ◌∷◌, ◌++◌, Some, sym, subst, rules}
use Rattle.wasm_operators.specs.Locals.{HasStepped, StepsLocals}
use Rattle.wasm_compaction.proofs.body.read_declarations.Goals as goal

pub declarations-preserved : goal.declarations-preserved
declarations-preserved c =
    let body = c.args.body.now in
    let d = c.in-Ok-item.declaration in
    let pushed : c.push.new.self.items ≡ c.declarations.declarations.items ++ d ∷ [] = search rules in
    let steps = subst (λ i. StepsLocals (Some i) c.declarations.items c.next.new.self) c.in-Ok-item.is c.in-Some.ensures.steps in
    let next = c.steps_of_locals.ensures.next c.declarations.declarations.items d body c.declarations.items c.next.new.self c.declarations.invariant steps in
    subst (λ items. HasStepped items body c.next.new.self) (sym pushed) next
