use Rattle.std.proofs.Common.{◌≡◌, ℕ, rules, ◌+◌, ◌-◌, length, drop, sym, ap, subst, ◌∙◌}
use Rattle.wasm_operators.specs.instr.declared.operator.Operator.{Operator}
use Rattle.wasm_operators.specs.Body.{EncodesBody}
use Rattle.wasm_operators.specs.Expression.{operators}
use Rattle.wasm_check_locals.specs.Locals.{in_function, locals_of}
use Rattle.wasm_signatures.specs.Own.{operator_typing}
use Rattle.wasm_signatures.specs.Types.{type_of}
use Rattle.wasm_signatures.specs.Types.{fixed as determined}
use Rattle.uses.specs.Input.{input}
use Rattle.uses.specs.TypedHeights.{HasHeight}
use Rattle.uses.proofs.TypedHeights.{first_height, height_on}
use Rattle.uses.proofs.typed_heights.heights_of_typed_body.Goals as goal

pub loop-at-init : goal.loop-at-init
loop-at-init g c =
    let E = g.M.ModuleContext.environment c.args.module.now in
    let params = c.args.ty.params.now in
    let results = c.args.ty.results.now in
    let ds = c.in-Ok-read_body.body.locals.items in
    let ps = c.in-Ok-read_body.body.operators.items in
    let first = first_height E params results c.new_features-reader.result c.args.features c.args.bytes.now ds ps c.one_body.ensures c.accepts_what_is_typed.ensures c.is_well_formed.ensures
    c.new_features-reader.ensures c.in-Ok.ensures.typed c.in-Ok-read_body.ensures in
    let same = c.as_slice-operators.ensures.value in (
      ds,
      subst (EncodesBody (input c.args.features c.args.bytes.now) ds) (sym same) c.in-Ok-read_body.ensures,
      subst (λ l. HasHeight (in_function E params results (locals_of ds)) 0 (operators l)) (sym same) first,
    )

pub returns-in_default : goal.returns-in_default
returns-in_default g c = let (ds, encodes, high) = c.loop-at.invariant in (ds, c.as_slice-operators.result.now, encodes, high)

pub overflow_sub-left : goal.overflow_sub-left
overflow_sub-left g c =
    let (ds, encodes, high) = c.loop-at.invariant in
    let F = in_function (g.M.ModuleContext.environment c.args.module.now) c.args.ty.params.now c.args.ty.results.now (locals_of ds) in
    let p = c.index-operators-at.result in
    let typing : determined (type_of c.in-Fixed.signature) ≡ operator_typing p.0 =
    c.in-Fixed.ensures ∙ ap (λ (q : Operator × ℕ). operator_typing q.0) (sym c.index-operators-at.is) in
    (height_on F c.loop-at.height c.loop-at.at c.as_slice-operators.result.now p (type_of c.in-Fixed.signature) c.loop-at-test.true c.index-operators-at.is typing high).0

pub loop-at-preserved : goal.loop-at-preserved
loop-at-preserved g c =
    let (ds, encodes, high) = c.loop-at.invariant in
    let F = in_function (g.M.ModuleContext.environment c.args.module.now) c.args.ty.params.now c.args.ty.results.now (locals_of ds) in
    let p = c.index-operators-at.result in
    let typing : determined (type_of c.in-Fixed.signature) ≡ operator_typing p.0 =
    c.in-Fixed.ensures ∙ ap (λ (q : Operator × ℕ). operator_typing q.0) (sym c.index-operators-at.is) in
    let next = (height_on F c.loop-at.height c.loop-at.at c.as_slice-operators.result.now p (type_of c.in-Fixed.signature) c.loop-at-test.true c.index-operators-at.is typing high).1 in
    let sum : c.in-Some.height ≡ c.loop-at.height - length c.in-Fixed.signature.takes.now + length c.in-Fixed.signature.leaves.now = search rules in
    (ds, encodes, subst (λ h. HasHeight F h (operators (drop (c.loop-at.at + 1) c.as_slice-operators.result.now))) (sym sum) next)

pub returns : goal.returns
returns g c = let (ds, encodes, high) = c.loop-at.invariant in (ds, c.as_slice-operators.result.now, encodes, high)
