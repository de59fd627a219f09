use Rattle.std.proofs.Common.{ap, ◌∙◌, ◌++◌, refl, arith, pos}
use Rattle.wasm_encode_numbers.specs.Shortest.{signed_bytes}
use Rattle.wasm_write_grammars.proofs.Owing.{extends_all}
use Rattle.wasm_encode_sections.proofs.ContBytes.{cont_written, cont_lacks}
use Rattle.wasm_encode_sections.proofs.functions.ContTypeWrite.append_to.Goals as goal

pub returns-then-self-gt-MAX_TYPE_INDEX : goal.returns-then-self-gt-MAX_TYPE_INDEX
returns-then-self-gt-MAX_TYPE_INDEX c =
    let high = c.if-self-gt-MAX_TYPE_INDEX.true in
    (extends_all _, λ known. record { none = cont_lacks c.args.self.now (omega (arith, high)); reason = (refl, omega (arith, high)) })

pub returns-in-Ok : goal.returns-in-Ok
returns-in-Ok c =
    let low = c.if-self-gt-MAX_TYPE_INDEX.false in
    let whole = c.write_s33.ensures.bytes ∙ ap (λ z. z ++ signed_bytes (pos c.args.self.now.0)) c.reserve.ensures.items in
    cont_written c.args.self.now _ _ (omega (arith, low)) whole
