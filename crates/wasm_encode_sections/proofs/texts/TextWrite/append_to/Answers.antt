use Rattle.std.proofs.Common.{◌≡◌, ◌<◌, length, ap, sym, ◌∙◌, refl, arith}
use Rattle.std.proofs.lemmas.Str.{is_utf8-from_IsUtf8}
use Rattle.wasm_write_grammars.proofs.Owing.{given, extends_all, extends_then}
use Rattle.wasm_encode_sections.specs.ExternalReasons.{TextReason}
use Rattle.wasm_encode_sections.proofs.ExternalSteps.{text_starts, text_written, text_lacks}
use Rattle.wasm_encode_sections.proofs.SameValue.{writes_as}
use Rattle.wasm_encode_sections.proofs.texts.TextWrite.append_to.Goals as goal

pub returns-then-bytes-gt-MAX_TEXT_SIZE : goal.returns-then-bytes-gt-MAX_TEXT_SIZE
returns-then-bytes-gt-MAX_TEXT_SIZE c =
    let same = ap length (c.as_bytes-bytes.ensures.value ∙ c.as_str.ensures) in
    let high = c.if-bytes-gt-MAX_TEXT_SIZE.true in
    (extends_all _, λ known. record { none = text_lacks c.args.self.now (omega (arith, high, same)); reason = (refl, omega (arith, high, same)) })

pub returns-in_err-append_u32 : goal.returns-in_err-append_u32
returns-in_err-append_u32 c =
    let (extends, why) = c.in_err-append_u32.ensures in
    given TextReason _ c.from_residual.ensures.1 extends (λ known. absurd (why known).reason)

pub returns-in_err-append_bytes : goal.returns-in_err-append_bytes
returns-in_err-append_bytes c =
    let (extends, why) = c.in_err-append_bytes.ensures in
    let low = c.if-bytes-gt-MAX_TEXT_SIZE.false in
    given TextReason _ c.from_residual-in_err-append_bytes.ensures.1
    (extends_then (text_starts c.as_bytes-bytes.result.now c.args.out.now.items (omega (arith, low)) c.in_ok-append_u32.ensures).appended extends) (λ known. absurd (why known).reason)

pub returns : goal.returns
returns c =
    let low = c.if-bytes-gt-MAX_TEXT_SIZE.false in
    writes_as (c.as_bytes-bytes.ensures.value ∙ c.as_str.ensures)
    (text_written c.as_bytes-bytes.result.now c.args.out.now.items (omega (arith, low)) (is_utf8-from_IsUtf8 _ c.as_bytes-bytes.ensures.utf8) c.in_ok-append_u32.ensures
    c.in_ok-append_bytes.ensures)
