use Rattle.std.proofs.Common.{◌≡◌, ◌+◌, List, length, ap, ◌∙◌, arith}
use Rattle.std.proofs.lemmas.Result.{err_from_is_err_and}
use Rattle.wasm_operators.specs.below.Source.{Reader}
use Rattle.wasm_operators.specs.Locals.{Declaration, EncodesLocals}
use Rattle.uses.proofs.Codes.{takes_known}
use Rattle.uses.proofs.bodies.locals_size.Goals as goal

pub returns-clause-size : goal.returns-clause-size
returns-clause-size c = λ declarations text more parts known.
    let body = c.args.body.now in
    let (others, (taken, encodes, takes)) = c.in_ok-after.ensures in
    let moved : c.in_ok-after.after.position ≡ body.position + length text =
    takes_known (λ (d e : List Declaration). d ≡ e) EncodesLocals body c.in_ok-after.after declarations others taken text more c.declarations.ensures.locals encodes takes parts known in
    let start = c.current_position-start.ensures ∙ ap (λ (r : Reader). r.position) c.get_binary_reader.ensures in
    omega (arith, moved, c.current_position.ensures, start)

pub returns-in_err-after-clause-refused : goal.returns-in_err-after-clause-refused
returns-in_err-after-clause-refused c = λ m offset known.
    let p = err_from_is_err_and c.from_residual.result c.from_residual.ensures.1 in
    rw (p.1, p.2) (c.refusals.ensures.locals c.in_err-after.field-0.0.message m c.args.body.now c.in_err-after.field-0.0.offset offset c.in_err-after.ensures.fault known)
