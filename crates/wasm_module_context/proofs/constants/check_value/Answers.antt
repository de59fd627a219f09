use Rattle.std.proofs.Common.{◌≢◌, subst, ◌∙◌}
use Rattle.wasm_check.specs.declared.error.CheckError.TheVariants as check
use Rattle.wasm_module_context.specs.declared.error.PayloadError.TheVariants as error
use Rattle.wasm_module_context.specs.Constants.{IsConstant, ExplainsConstant}
use Rattle.wasm_module_context.proofs.constants.check_value.Goals as goal

pub returns-in-Ok-clause-typed : goal.returns-in-Ok-clause-typed
returns-in-Ok-clause-typed c =
    let same = c.get_binary_reader-expression.ensures ∙ c.expression.ensures in
    subst (λ r. IsConstant c.args.context.now c.args.ty r) same c.in-Ok.ensures.typed

pub returns-in-Err-clause-error : goal.returns-in-Err-clause-error
returns-in-Err-clause-error c =
    let same = c.get_binary_reader-expression.ensures ∙ c.expression.ensures in
    let e = c.in-Err.e in
    let none : e ≢ check.Memory → IsConstant c.args.context.now c.args.ty c.get_binary_reader-expression.result → ⊥ = λ known typed.
    known (c.in-Err.ensures.whole typed.expression.placed (typed.expression.encodes, (typed.expression.tree, typed.expression.only.0, typed.expression.typed)) typed.may_occur) in
    subst (λ r. ExplainsConstant c.args.context.now c.args.ty r (error.Constant e)) same (none, c.in-Err.ensures.error)
