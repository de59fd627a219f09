use Rattle.std.proofs.Common.{true, false, sym, ◌∙◌}
use Rattle.wasm_typing.specs.Steps.{labels_of}
use Rattle.wasm_check_operators.proofs.Clauses.{clause_tested}
use Rattle.wasm_check_operators.proofs.exceptions.clauses_fit.Goals as goal

pub returns-then-not-clause_fits : goal.returns-then-not-clause_fits
returns-then-not-clause_fits g c =
    let E = g.M.ModuleContext.environment c.args.context.now in
    clause_tested E (labels_of c.args.control.now) c.args.clauses.now c.loop-i.i _ false c.loop-i-test.true
    (sym c.clause_fits.ensures ∙ c.if-not-clause_fits.true) c.loop-i.invariant

pub loop-i-preserved : goal.loop-i-preserved
loop-i-preserved g c =
    let E = g.M.ModuleContext.environment c.args.context.now in
    clause_tested E (labels_of c.args.control.now) c.args.clauses.now c.loop-i.i _ true c.loop-i-test.true
    (sym c.clause_fits.ensures ∙ c.if-not-clause_fits.false) c.loop-i.invariant
