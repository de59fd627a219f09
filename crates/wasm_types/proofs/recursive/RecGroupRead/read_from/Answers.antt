use Rattle.std.proofs.Common.{refl, arith}
use Rattle.std.proofs.lemmas.Bool.{eq-eqb, ne_eqb}
use Rattle.wasm_below.specs.Source.{offset_of}
use Rattle.wasm_grammars.proofs.Steps.{begins, then, peeked, unpeeked, peek_ends, taken, fails_in, fails_first, ends, stays}
use Rattle.wasm_types.specs.Types.{rec_group}
use Rattle.wasm_types.proofs.Leading.{explicit_some, implicit_some, copied, stays_in}
use Rattle.wasm_types.proofs.recursive.RecGroupRead.read_from.Goals as goal

pub returns-in_err-byte : goal.returns-in_err-byte
returns-in_err-byte c = stays _ c.from_residual.ensures.1 (peek_ends (begins rec_group refl) c.in_err-byte.ensures.end)

pub returns-in_err-types : goal.returns-in_err-types
returns-in_err-types c =
    let is = c.if-byte-eq78.true in
    let next = copied c.clone-ahead.ensures c.in_ok-byte.ensures.prefix in
    let explicit = peeked (begins rec_group c.clone-ahead.ensures) next (eq-eqb _ _ is) (explicit_some (offset_of c.clone-ahead.result)) in
    let types = then explicit (taken next (omega (arith, is)) c.advance.ensures) in
    stays _ c.from_residual-in_err-types.ensures.1 (fails_in types c.in_err-types.ensures.1)

pub returns-then-byte-eq78 : goal.returns-then-byte-eq78
returns-then-byte-eq78 c =
    let is = c.if-byte-eq78.true in
    let next = copied c.clone-ahead.ensures c.in_ok-byte.ensures.prefix in
    let explicit = peeked (begins rec_group c.clone-ahead.ensures) next (eq-eqb _ _ is) (explicit_some (offset_of c.clone-ahead.result)) in
    ends (then (then explicit (taken next (omega (arith, is)) c.advance.ensures)) c.in_ok-types.ensures)

pub returns-in_err-ty : goal.returns-in_err-ty
returns-in_err-ty c =
    let implicit = unpeeked (begins rec_group refl) c.in_ok-byte.ensures.prefix (ne_eqb _ _ c.if-byte-eq78.false) (implicit_some (offset_of c.args.reader.now)) in
    stays_in _ c.in_err-ty.ensures.0 c.from_residual-in_err-ty.ensures.1 (fails_first implicit c.in_err-ty.ensures.1)

pub returns : goal.returns
returns c =
    let implicit = unpeeked (begins rec_group refl) c.in_ok-byte.ensures.prefix (ne_eqb _ _ c.if-byte-eq78.false) (implicit_some (offset_of c.args.reader.now)) in
    ends (then implicit c.in_ok-ty.ensures)
