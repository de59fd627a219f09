use Rattle.std.proofs.Common.{Ok, refl, sym, ap, subst, ◌∙◌, arith}
use Rattle.wasm_operators.specs.below.Source.{Reader, at_position}
use Rattle.wasm_operators.specs.Locals.{ReadsPastLocals, RefusesLocals}
use Rattle.wasm_c.proofs.ValueReads.{past_locals}
use Rattle.wasm_c.proofs.values.read_locals.Goals as goal

pub set_position-requires : goal.set_position-requires
set_position-requires c =
    let past = past_locals c.args.reader.now c.in-Ok.after (subst (ReadsPastLocals (Ok c.in-Ok.after)) (c.new.ensures ∙ c.clone.ensures) c.in-Ok.ensures) in
    omega (arith, past.0, c.current_position.ensures)

pub returns-in-Ok : goal.returns-in-Ok
returns-in-Ok c =
    let old = c.args.reader.now in
    let reads = subst (ReadsPastLocals (Ok c.in-Ok.after)) (c.new.ensures ∙ c.clone.ensures) c.in-Ok.ensures in
    let past = past_locals old c.in-Ok.after reads in
    let there = c.set_position.ensures ∙ ap (at_position old) c.current_position.ensures ∙ past.1 in
    (subst (λ (r : Reader). ReadsPastLocals (Ok r) old) (sym there) reads, c.number.ensures)

pub returns-in-Err : goal.returns-in-Err
returns-in-Err c = (refl, subst (RefusesLocals c.in-Err.e) (c.new.ensures ∙ c.clone.ensures) c.in-Err.ensures)
