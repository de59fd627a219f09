use Rattle.std.proofs.Common.{◌≡◌, Option, None, Some, true, false, refl, sym, ap, ◌∙◌}
use Rattle.wasm_below.specs.declared.types.ValType.TheVariants.{I32}
use Rattle.wasm_typing.specs.Types.{value_type}
use Rattle.wasm_typing.specs.declared.value_type.ValueType.{ValueType}
use Rattle.wasm_check_control.specs.Segments.{innermost}
use Rattle.wasm_check_control.proofs.OnTop.{has_none, has_next}
use Rattle.wasm_check_control.proofs.peeks.has_all.Goals as goal

none_of : (o : Option ValueType) → ((t : ValueType) → o ≡ Some t → ⊥) → None ≡ o
none_of None n = refl
none_of (Some t) n = absurd (n t refl)

pub returns-in_default : goal.returns-in_default
returns-in_default g c =
    has_none (g.M.ModuleContext.environment c.args.context.now).order c.args.types.now (innermost c.args.operands.now) c.args.unreachable c.loop-i.i I32 c.loop-i-test.true
    (none_of c.peek.result c.in_default.not-Some ∙ c.peek.ensures) c.loop-i.invariant

pub returns-then-not-matches : goal.returns-then-not-matches
returns-then-not-matches g c =
    has_next (g.M.ModuleContext.environment c.args.context.now).order c.args.types.now (innermost c.args.operands.now) c.args.unreachable c.loop-i.i _ c.in-Some.found c.new.result false c.loop-i-test.true
    (sym c.in-Some.is ∙ c.peek.ensures) (c.new.ensures ∙ ap value_type c.index-types-index.is) (sym c.if-not-matches.true ∙ c.matches.ensures) c.loop-i.invariant

pub loop-i-preserved : goal.loop-i-preserved
loop-i-preserved g c =
    has_next (g.M.ModuleContext.environment c.args.context.now).order c.args.types.now (innermost c.args.operands.now) c.args.unreachable c.loop-i.i _ c.in-Some.found c.new.result true c.loop-i-test.true
    (sym c.in-Some.is ∙ c.peek.ensures) (c.new.ensures ∙ ap value_type c.index-types-index.is) (sym c.if-not-matches.false ∙ c.matches.ensures) c.loop-i.invariant
