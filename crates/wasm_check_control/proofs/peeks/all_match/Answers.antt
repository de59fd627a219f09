use Rattle.std.proofs.Common.{true, false, sym, ap, ◌∙◌}
use Rattle.wasm_typing.specs.Types.{value_type}
use Rattle.wasm_check_control.specs.Environment.{stack_of}
use Rattle.wasm_check_control.proofs.OnTop.{unequal_lengths, stack_length, match_next}
use Rattle.wasm_check_control.proofs.peeks.all_match.Goals as goal

pub returns-then-types-wanted : goal.returns-then-types-wanted
returns-then-types-wanted g c =
    unequal_lengths (g.M.ModuleContext.environment c.args.context.now).order (stack_of c.args.types.now) (stack_of c.args.wanted.now)
    (λ e. c.if-types-wanted.true (sym (stack_length c.args.types.now) ∙ e ∙ stack_length c.args.wanted.now))

pub returns-then-not-matches : goal.returns-then-not-matches
returns-then-not-matches g c =
    match_next (g.M.ModuleContext.environment c.args.context.now).order c.args.types.now c.args.wanted.now c.loop-i.i _ _ c.new-ty.result c.new-other.result false c.loop-i-test.true c.if-types-wanted.false
    (c.new-ty.ensures ∙ ap value_type c.index-types-index.is) (c.new-other.ensures ∙ ap value_type c.index-wanted-index.is) (sym c.if-not-matches.true ∙ c.matches.ensures) c.loop-i.invariant

pub loop-i-preserved : goal.loop-i-preserved
loop-i-preserved g c =
    match_next (g.M.ModuleContext.environment c.args.context.now).order c.args.types.now c.args.wanted.now c.loop-i.i _ _ c.new-ty.result c.new-other.result true c.loop-i-test.true c.if-types-wanted.false
    (c.new-ty.ensures ∙ ap value_type c.index-types-index.is) (c.new-other.ensures ∙ ap value_type c.index-wanted-index.is) (sym c.if-not-matches.false ∙ c.matches.ensures) c.loop-i.invariant
