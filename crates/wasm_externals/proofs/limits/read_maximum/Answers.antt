use Rattle.std.proofs.Common.{refl, arith}
use Rattle.std.proofs.lemmas.Bool.{eq-eqb, ne_eqb}
use Rattle.wasm_externals.specs.Limits.{maximum}
use Rattle.wasm_grammars.proofs.Steps.{begins, then, yes, no, fails_in, ends}
use Rattle.wasm_externals.proofs.limits.read_maximum.Goals as goal

pub returns-then-flags-eq0 : goal.returns-then-flags-eq0
returns-then-flags-eq0 c = ends (no (begins (maximum c.args.flags c.args.reader.now.features) refl) (ne_eqb _ _ (λ e. omega (arith, e, c.if-flags-eq0.true))))

pub returns-in-Ok : goal.returns-in-Ok
returns-in-Ok c =
    let some = yes (begins (maximum c.args.flags c.args.reader.now.features) refl) (eq-eqb _ _ (omega (arith, c.if-flags-eq0.false))) in
    ends (then some c.in-Ok.ensures)

pub returns-in-Err : goal.returns-in-Err
returns-in-Err c =
    let some = yes (begins (maximum c.args.flags c.args.reader.now.features) refl) (eq-eqb _ _ (omega (arith, c.if-flags-eq0.false))) in
    (c.in-Err.ensures.0, fails_in some c.in-Err.ensures.1)
