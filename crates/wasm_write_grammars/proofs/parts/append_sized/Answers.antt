use Rattle.std.proofs.Common.{refl, arith}
use Rattle.wasm_write_grammars.specs.Writing.{SizedReason}
use Rattle.wasm_write_grammars.proofs.Owing.{given, extends_all, extends_then}
use Rattle.wasm_write_grammars.proofs.SizedBytes.{sized_starts, sized_lacks}
use Rattle.wasm_write_grammars.proofs.parts.append_sized.Goals as goal

pub returns-then-bytes-gt4294967295 : goal.returns-then-bytes-gt4294967295
returns-then-bytes-gt4294967295 c =
    let many = c.if-bytes-gt4294967295.true in
    (extends_all _, λ known. record { none = sized_lacks c.args.bytes.now (omega (arith, many)); reason = (refl, omega (arith, many)) })

pub returns-in_err-append_u32 : goal.returns-in_err-append_u32
returns-in_err-append_u32 c =
    let (extends, why) = c.in_err-append_u32.ensures in
    given SizedReason _ c.from_residual.ensures.1 extends (λ known. absurd (why known).reason)

pub returns-in_err-append_bytes : goal.returns-in_err-append_bytes
returns-in_err-append_bytes c =
    let (extends, why) = c.in_err-append_bytes.ensures in
    given SizedReason _ c.from_residual-in_err-append_bytes.ensures.1 (extends_then (sized_starts c.args.bytes.now _ c.in_ok-append_u32.ensures).appended extends)
    (λ known. absurd (why known).reason)

pub returns : goal.returns
returns c = (sized_starts c.args.bytes.now _ c.in_ok-append_u32.ensures).pays _ c.in_ok-append_bytes.ensures
