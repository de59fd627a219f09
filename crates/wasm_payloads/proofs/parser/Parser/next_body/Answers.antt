use Rattle.std.proofs.Common.{◌≡◌, ◌<◌, inl, inr, refl, arith}
use Rattle.wasm_payloads.proofs.parser.Parser.next_body.Goals as goal

pub returns-in-Err-clause-err : goal.returns-in-Err-clause-err
returns-in-Err-clause-err c =
    let none : c.args.size ≡ 0 = omega arith in
    inl (c.if-remaining-eq0.true, none, c.in-Err.ensures.err)

pub returns-in-Ok-read_delimited-clause-ok : goal.returns-in-Ok-read_delimited-clause-ok
returns-in-Ok-read_delimited-clause-ok c =
    let some : 0 < c.args.remaining = omega arith in
    rw (← c.self-2.view_is) (inr (some, c.in-Ok-read_delimited.body, c.in-Ok-read_delimited.left, c.in-Ok-read_delimited.ensures, refl, refl))
