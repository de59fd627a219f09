use Rattle.std.proofs.Common.{inl, refl, sym, subst, ap, arith}
use Rattle.wasm_write_grammars.proofs.Owing.{given, extends_all}
use Rattle.wasm_encode_modules.specs.RawSections.{SectionReason}
use Rattle.wasm_encode_modules.proofs.RawSteps.{raw_lacks, raw_written, raw_fails}
use Rattle.wasm_encode_modules.proofs.section.append_section.Goals as goal

pub returns-then-id-gt-MAX_ID : goal.returns-then-id-gt-MAX_ID
returns-then-id-gt-MAX_ID c =
    let high = c.if-id-gt-MAX_ID.true in
    let same = c.id-id.ensures in
    (extends_all _, λ known. record { none = raw_lacks c.args.section.now (omega (arith, high, same)); reason = inl (refl, omega (arith, high, same)) })

pub returns-in_err-append_byte : goal.returns-in_err-append_byte
returns-in_err-append_byte c =
    let (extends, why) = c.in_err-append_byte.ensures in
    given SectionReason _ c.from_residual.ensures.1 extends (λ known. absurd (why known).reason)

pub returns-in_err-append_sized : goal.returns-in_err-append_sized
returns-in_err-append_sized c =
    let low = c.if-id-gt-MAX_ID.false in
    raw_fails c.args.section.now _ c.id-id.ensures (omega (arith, low)) c.bytes.ensures c.in_ok-append_byte.ensures _ c.from_residual-in_err-append_sized.ensures.1
    c.in_err-append_sized.ensures

pub returns : goal.returns
returns c =
    let low = c.if-id-gt-MAX_ID.false in
    raw_written c.args.section.now _ c.id-id.ensures (omega (arith, low)) c.bytes.ensures c.in_ok-append_byte.ensures c.in_ok-append_sized.ensures
