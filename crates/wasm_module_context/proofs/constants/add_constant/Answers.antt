use Rattle.std.proofs.Common.{◌≢◌, inr, subst, ◌∙◌}
use Rattle.wasm_check.specs.declared.error.CheckError.TheVariants as check
use Rattle.wasm_module_context.specs.declared.error.PayloadError.TheVariants as error
use Rattle.wasm_module_context.specs.Constants.{IsConstant, ExplainsConstant}
use Rattle.wasm_module_context.proofs.constants.add_constant.Goals as goal

pub returns-in-Ok-check_constant-clause-added : goal.returns-in-Ok-check_constant-clause-added
returns-in-Ok-check_constant-clause-added c =
    let same = c.get_binary_reader-expression.ensures ∙ c.expression.ensures in
    (c.in-Ok.ensures.added, subst (λ r. IsConstant c.in-Ok.context c.args.ty r) same c.in-Ok-check_constant.ensures.typed)

pub returns-in-Err-check_constant-clause-refused : goal.returns-in-Err-check_constant-clause-refused
returns-in-Err-check_constant-clause-refused c =
    let same = c.get_binary_reader-expression.ensures ∙ c.expression.ensures in
    let e = c.in-Err-check_constant.e in
    let none : e ≢ check.Memory → IsConstant c.in-Ok.context c.args.ty c.get_binary_reader-expression.result → ⊥ = λ known typed.
    known (c.in-Err-check_constant.ensures.whole typed.expression.placed (typed.expression.encodes, (typed.expression.tree, typed.expression.only.0, typed.expression.typed)) typed.may_occur) in
    inr (c.in-Ok.context, c.in-Ok.ensures.added, subst (λ r. ExplainsConstant c.in-Ok.context c.args.ty r (error.Constant e)) same (none, c.in-Err-check_constant.ensures.error))
