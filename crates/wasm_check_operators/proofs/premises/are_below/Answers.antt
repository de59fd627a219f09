use Rattle.std.proofs.Common.{true, false, sym, ◌∙◌}
use Rattle.wasm_check_operators.proofs.Lanes.{lane_tested}
use Rattle.wasm_check_operators.proofs.premises.are_below.Goals as goal

pub returns-then-not-is_below : goal.returns-then-not-is_below
returns-then-not-is_below c =
    lane_tested c.args.count c.args.lanes.now c.loop-i.i _ false c.loop-i-test.true (sym c.is_below.ensures ∙ c.if-not-is_below.true) c.loop-i.invariant

pub loop-i-preserved : goal.loop-i-preserved
loop-i-preserved c =
    lane_tested c.args.count c.args.lanes.now c.loop-i.i _ true c.loop-i-test.true (sym c.is_below.ensures ∙ c.if-not-is_below.false) c.loop-i.invariant
