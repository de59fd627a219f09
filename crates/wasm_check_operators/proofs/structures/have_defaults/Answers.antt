use Rattle.std.proofs.Common.{true, false, sym, ap, ◌∙◌}
use Rattle.wasm_check_operators.specs.Aggregates.{has_default}
use Rattle.wasm_check_operators.proofs.Defaults.{field_tested}
use Rattle.wasm_check_operators.proofs.structures.have_defaults.Goals as goal

pub returns-then-not-has_default : goal.returns-then-not-has_default
returns-then-not-has_default c =
    field_tested c.args.fields.now c.loop-i.i _ false c.loop-i-test.true (ap has_default (sym c.index-fields-i.is) ∙ sym c.has_default.ensures ∙ c.if-not-has_default.true) c.loop-i.invariant

pub loop-i-preserved : goal.loop-i-preserved
loop-i-preserved c =
    field_tested c.args.fields.now c.loop-i.i _ true c.loop-i-test.true (ap has_default (sym c.index-fields-i.is) ∙ sym c.has_default.ensures ∙ c.if-not-has_default.false) c.loop-i.invariant
