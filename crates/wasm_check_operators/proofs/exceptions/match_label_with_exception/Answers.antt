use Rattle.std.proofs.Common.{rules, ◌≡◌, [], length, IsTrue, false, sym, ap, ◌∙◌}
use Rattle.wasm_below.specs.declared.types.AbstractHeapType.TheVariants as ty
use Rattle.wasm_typing.specs.declared.value_type.ValueType.TheVariants.{Ref}
use Rattle.wasm_typing.specs.Matching.{abstract}
use Rattle.wasm_typing.specs.Checking.{all_match}
use Rattle.wasm_check_control.specs.Environment.{stack_of}
use Rattle.wasm_check_control.specs.State.{results_of}
use Rattle.wasm_check_operators.specs.Exceptions.{with_exception}
use Rattle.wasm_check_operators.proofs.Matched.{none_below}
use Rattle.wasm_check_operators.proofs.exceptions.match_label_with_exception.Goals as goal

pub returns-in-Some : goal.returns-in-Some
returns-in-Some g c =
    let O = (g.M.ModuleContext.environment c.args.context.now).order in
    let e : IsTrue c.is_empty.result → length c.args.types.now ≡ 0 = search rules in
    let n : c.args.types.now ≡ [] → IsTrue c.is_empty.result = search rules in
    none_below O c.args.types.now (Ref false (abstract false ty.Exn)) c.in-Some.wanted c.is_empty.result (sym c.matches.ensures ∙ c.if-not-matches.false) e n ∙
    ap (λ o. all_match O (with_exception (stack_of c.args.types.now)) (results_of o c.args.label.many.now)) (sym c.in-Some.is)
