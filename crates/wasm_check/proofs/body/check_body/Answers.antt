use Rattle.std.proofs.Common.{false, length, refl, sym, subst}
use Rattle.std.specs.Prelude.{OnOk}
use Rattle.wasm_below.specs.Source.{source_of}
use Rattle.wasm_operators.specs.Expression.{operators}
use Rattle.wasm_check_control.specs.Environment.{stack_of}
use Rattle.wasm_check_operators.specs.Language.{rules_of}
use Rattle.wasm_check_locals.specs.Locals.{in_function}
use Rattle.wasm_check.specs.Bodies.{HasDeclared}
use Rattle.wasm_check.specs.Constants.{may_occur, IsTypedOf}
use Rattle.wasm_check.specs.Typed.{EncodesTyped}
use Rattle.wasm_check.proofs.Driving.{all_occur}
use Rattle.wasm_check.proofs.Remaining.{typed_body, typed_expression_of}
use Rattle.wasm_check.proofs.body.check_body.Goals as goal

pub returns-clause-typed : goal.returns-clause-typed
returns-clause-typed g c =
    let E = g.M.ModuleContext.environment c.args.module.now in
    let params = c.args.ty.params.now in
    let results = c.args.ty.results.now in
    let declared = subst (λ b. HasDeclared E.order (length params) c.in-Ok.read.0 b c.in-Ok.read.1) c.new-body.ensures c.in-Ok.ensures.read in
    let F = in_function E params results c.in-Ok.read.0 in
    typed_body E params results c.in-Ok.read.0 c.args.body c.in-Ok.read.1 declared c.check_operators.result c.past_locals.ensures.body
    (subst (λ r. OnOk c.check_operators.result (IsTypedOf (may_occur false F) (rules_of F) (stack_of results) (source_of r))) c.new.ensures.reader c.check_operators.ensures.typed)

pub returns-clause-whole : goal.returns-clause-whole
returns-clause-whole g c = λ declarations placed encodes.
    let E = g.M.ModuleContext.environment c.args.module.now in
    let params = c.args.ty.params.now in
    let results = c.args.ty.results.now in
    let declared = subst (λ b. HasDeclared E.order (length params) c.in-Ok.read.0 b c.in-Ok.read.1) c.new-body.ensures c.in-Ok.ensures.read in
    let F = in_function E params results c.in-Ok.read.0 in
    c.check_operators.ensures.whole placed
    (subst (λ r. EncodesTyped (rules_of F) (stack_of results) (source_of r) placed) (sym c.new.ensures.reader)
    (typed_expression_of E params results c.in-Ok.read.0 c.args.body c.in-Ok.read.1 declared declarations placed c.past_locals.ensures.expression encodes))
    (all_occur (may_occur false F) (λ op. refl) (operators placed))
