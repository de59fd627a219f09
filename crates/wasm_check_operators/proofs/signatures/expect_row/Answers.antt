use Rattle.std.proofs.Common.{◌∷◌, [], None, refl, sym, ap, subst, ◌∙◌}
use Rattle.wasm_signatures.specs.Types.{value_of}
use Rattle.wasm_typing.specs.Types.{value_type}
use Rattle.wasm_check_control.specs.State.{taken, Answers}
use Rattle.wasm_check_operators.specs.Forms.{address_value}
use Rattle.wasm_check_operators.proofs.RowSteps.{first_operand, two_operands, none_above, both_taken}
use Rattle.wasm_check_operators.proofs.signatures.expect_row.Goals as goal

pub returns-then-not-expect : goal.returns-then-not-expect
returns-then-not-expect g c =
    let O = (g.M.ModuleContext.environment c.args.context.now).order in
    let top = value_type (value_of (address_value c.args.is_64) c.args.row.top) in
    let is = first_operand c.args.is_64 c.args.row.takes c.args.row.below c.args.row.top c.if-row-eq0.false in
    ap (λ s. taken O s c.args.control.now) is.1 ∙
    none_above O top is.0 c.args.control.now (ap (λ v. taken O (v ∷ []) c.args.control.now) (sym c.operand.ensures) ∙ c.if-not-expect.ensures)

pub returns : goal.returns
returns g c =
    let O = (g.M.ModuleContext.environment c.args.context.now).order in
    let top = value_type (value_of (address_value c.args.is_64) c.args.row.top) in
    let below = value_type (value_of (address_value c.args.is_64) c.args.row.below) in
    let is = two_operands c.args.is_64 c.args.row.takes c.args.row.below c.args.row.top c.if-row-eq0.false c.if-row-eq1.false in
    let first = ap (λ v. taken O (v ∷ []) c.args.control.now) (sym c.operand.ensures) ∙ c.if-not-expect.ensures in
    let second = ap (λ v. taken O (v ∷ []) c.expect.new.self) (sym c.operand-2.ensures) in
    subst (λ o. Answers c.expect-2.result o c.expect-2.new.self)
    (sym (ap (λ s. taken O s c.args.control.now) is ∙ both_taken O top below c.args.control.now c.expect.new.self _ first second)) c.expect-2.ensures
