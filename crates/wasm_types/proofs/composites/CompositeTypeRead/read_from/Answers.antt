use Rattle.std.proofs.Common.{refl, arith}
use Rattle.std.proofs.lemmas.Bool.{eq-eqb, ne_eqb}
use Rattle.wasm_below.specs.Source.{offset_of}
use Rattle.wasm_grammars.proofs.Steps.{begins, then, peeked, unpeeked, peek_ends, taken, fails_in, fails_first, ends, stays}
use Rattle.wasm_types.specs.Types.{composite_type}
use Rattle.wasm_types.proofs.Leading.{shared_some, unshared_some, copied, stays_in}
use Rattle.wasm_types.proofs.composites.CompositeTypeRead.read_from.Goals as goal

pub returns-in_err-byte : goal.returns-in_err-byte
returns-in_err-byte c = stays _ c.from_residual.ensures.1 (peek_ends (begins composite_type refl) c.in_err-byte.ensures.end)

pub returns-in_err-inner : goal.returns-in_err-inner
returns-in_err-inner c =
    let is = c.if-byte-eq101.true in
    let next = copied c.clone-ahead.ensures c.in_ok-byte.ensures.prefix in
    let shared = peeked (begins composite_type c.clone-ahead.ensures) next (eq-eqb _ _ is) (shared_some (offset_of c.clone-ahead.result)) in
    let inner = then shared (taken next (omega (arith, is)) c.advance.ensures) in
    stays _ c.from_residual-in_err-inner.ensures.1 (fails_in inner c.in_err-inner.ensures.1)

pub returns-then-byte-eq101 : goal.returns-then-byte-eq101
returns-then-byte-eq101 c =
    let is = c.if-byte-eq101.true in
    let next = copied c.clone-ahead.ensures c.in_ok-byte.ensures.prefix in
    let shared = peeked (begins composite_type c.clone-ahead.ensures) next (eq-eqb _ _ is) (shared_some (offset_of c.clone-ahead.result)) in
    ends (then (then shared (taken next (omega (arith, is)) c.advance.ensures)) c.in_ok-inner.ensures)

pub returns-in_err-inner-2 : goal.returns-in_err-inner-2
returns-in_err-inner-2 c =
    let unshared = unpeeked (begins composite_type refl) c.in_ok-byte.ensures.prefix (ne_eqb _ _ c.if-byte-eq101.false) (unshared_some (offset_of c.args.reader.now)) in
    stays_in _ c.in_err-inner-2.ensures.0 c.from_residual-in_err-inner-2.ensures.1 (fails_first unshared c.in_err-inner-2.ensures.1)

pub returns : goal.returns
returns c =
    let unshared = unpeeked (begins composite_type refl) c.in_ok-byte.ensures.prefix (ne_eqb _ _ c.if-byte-eq101.false) (unshared_some (offset_of c.args.reader.now)) in
    ends (then unshared c.in_ok-inner-2.ensures)
