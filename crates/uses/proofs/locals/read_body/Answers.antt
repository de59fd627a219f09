use Rattle.std.proofs.Common.{◌≡◌, [], ◌∷◌, ◌++◌, Some, None, Ok, ap, sym, subst, ◌∙◌, rules}
use Rattle.wasm_operators.specs.below.Source.{reader_of}
use Rattle.wasm_operators.specs.Body.{EncodesBody}
use Rattle.wasm_operators.specs.Locals.{HasStepped, StepsLocals}
use Rattle.uses.specs.Input.{input}
use Rattle.uses.proofs.locals.read_body.Goals as goal

pub declarations-preserved : goal.declarations-preserved
declarations-preserved c =
    let body = reader_of c.args.features 0 c.args.bytes.now in
    let d = c.in_ok-declaration.declaration in
    let pushed : c.push.new.self.items ≡ c.declarations.locals.items ++ d ∷ [] = search rules in
    let item : c.in-Some.item ≡ Ok d = search rules in
    let steps = subst (λ i. StepsLocals (Some i) c.declarations.items c.next.new.self) item c.in-Some.ensures.steps in
    let next = c.steps_of_locals.ensures.next c.declarations.locals.items d body c.declarations.items c.next.new.self c.declarations.invariant steps in
    subst (λ items. HasStepped items body c.next.new.self) (sym pushed) next

pub returns : goal.returns
returns c =
    let body = reader_of c.args.features 0 c.args.bytes.now in
    let none : StepsLocals None c.declarations.items c.next.new.self = c.in_default.ensures.steps in
    let stepped = subst (HasStepped c.declarations.locals.items body) (sym none.1) c.declarations.invariant in
    let left : c.next.new.self.left ≡ 0 = ap (λ items. items.left) none.1 ∙ none.0 in
    let after = c.into_operators_reader.ensures.after body c.declarations.locals.items left stepped in
    let along = (c.in_ok-read_all.ensures.rest [] c.into_operators_reader.ensures.read_so_far).tree in
    let whole = c.past_locals.ensures.body body c.into_operators_reader.result.reader c.declarations.locals.items along.0 after along.2.encodes in
    let same = along.1 ∙ ap (λ first. first ++ along.0) c.new-operators.ensures.items in
    subst (EncodesBody (input c.args.features c.args.bytes.now) c.declarations.locals.items) (sym same) whole
