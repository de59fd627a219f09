use Rattle.std.proofs.Common.{[], ◌∷◌, true, subst}
use Rattle.std.specs.Prelude.{OnOk, IfErr}
use Rattle.wasm_below.specs.Source.{source_of}
use Rattle.wasm_typing.specs.Types.{value_type}
use Rattle.wasm_check_operators.specs.Language.{rules_of}
use Rattle.wasm_check_locals.specs.Locals.{in_function}
use Rattle.wasm_check.specs.Constants.{may_occur, IsTypedOf, ExplainsOf}
use Rattle.wasm_check.proofs.constant.check_constant.Goals as goal

pub returns-clause-typed : goal.returns-clause-typed
returns-clause-typed g c =
    let E = g.M.ModuleContext.environment c.args.module.now in
    let ty = c.args.ty in
    subst (λ r. OnOk c.check_operators.result (IsTypedOf (may_occur true (in_function E [] (ty ∷ []) [])) (rules_of (in_function E [] (ty ∷ []) [])) (value_type ty ∷ []) (source_of r))) c.new.ensures.reader
    (subst (λ ls. OnOk c.check_operators.result (IsTypedOf (may_occur true (in_function E [] (ty ∷ []) ls)) (rules_of (in_function E [] (ty ∷ []) ls)) (value_type ty ∷ []) (source_of c.new.result.reader))) c.new-locals.ensures
    c.check_operators.ensures.typed)

pub returns-clause-error : goal.returns-clause-error
returns-clause-error g c =
    let E = g.M.ModuleContext.environment c.args.module.now in
    let ty = c.args.ty in
    subst (λ r. IfErr c.check_operators.result (λ e. ExplainsOf (may_occur true (in_function E [] (ty ∷ []) [])) (rules_of (in_function E [] (ty ∷ []) [])) (value_type ty ∷ []) r e)) c.new.ensures.reader
    (subst (λ ls. IfErr c.check_operators.result (λ e. ExplainsOf (may_occur true (in_function E [] (ty ∷ []) ls)) (rules_of (in_function E [] (ty ∷ []) ls)) (value_type ty ∷ []) c.new.result.reader e)) c.new-locals.ensures
    c.check_operators.ensures.error)
