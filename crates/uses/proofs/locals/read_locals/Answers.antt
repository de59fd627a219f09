use Rattle.std.proofs.Common.{◌≡◌, [], ◌∷◌, ◌++◌, Some, None, Ok, ap, sym, subst, ◌∙◌, rules}
use Rattle.wasm_operators.specs.Locals.{HasStepped, StepsLocals}
use Rattle.uses.proofs.locals.read_locals.Goals as goal

pub declarations-preserved : goal.declarations-preserved
declarations-preserved c =
    let body = c.args.body.now in
    let d = c.in_ok-declaration.declaration in
    let pushed : c.push.new.self.items ≡ c.declarations.locals.items ++ d ∷ [] = search rules in
    let item : c.in-Some.item ≡ Ok d = search rules in
    let steps = subst (λ i. StepsLocals (Some i) c.declarations.items c.next.new.self) item c.in-Some.ensures.steps in
    let next = c.steps_of_locals.ensures.next c.declarations.locals.items d body c.declarations.items c.next.new.self c.declarations.invariant steps in
    subst (λ items. HasStepped items body c.next.new.self) (sym pushed) next

pub into_binary_reader_for_operators-requires : goal.into_binary_reader_for_operators-requires
into_binary_reader_for_operators-requires c =
    let none : StepsLocals None c.declarations.items c.next.new.self = c.in_default.ensures.steps in
    ap (λ items. items.left) none.1 ∙ none.0

pub returns : goal.returns
returns c =
    let body = c.args.body.now in
    let none : StepsLocals None c.declarations.items c.next.new.self = c.in_default.ensures.steps in
    let stepped = subst (HasStepped c.declarations.locals.items body) (sym none.1) c.declarations.invariant in
    c.into_binary_reader_for_operators.ensures.after body c.declarations.locals.items stepped
