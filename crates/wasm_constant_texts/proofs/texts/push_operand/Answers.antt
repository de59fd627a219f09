use Rattle.std.proofs.Common.{◌≡◌, ◌<◌, ◌≤◌, ◌+◌, ◌==◌, ◌++◌, [], length, OnOk, string_bytes, sym, subst, ap, ◌∙◌, append-nil, arith, rules}
use Rattle.std.proofs.lemmas.List.{drop_all}
use Rattle.std.specs.List.{after_first, position_or_len}
use Rattle.wasm_text.specs.Operands.{text_of}
use Rattle.wasm_constant_texts.specs.ConstantTexts.{operand_text}
use Rattle.wasm_constant_texts.proofs.texts.push_operand.Goals as goal

pub returns-in-Some : goal.returns-in-Some
returns-in-Some c =
    let small : 32 < 128 = omega arith in
    let parts = c.in-Some.ensures.byte small (λ w o p. p) in
    let text = c.as_str.ensures.value ∙ c.in_ok-write_operator.ensures ∙ ap (λ z. z ++ text_of c.args.op.now) c.new-text.ensures.bytes in
    let wrote : OnOk c.push_str.result (string_bytes c.push_str.new.self ≡ string_bytes c.args.out.now ++ c.in-Some.operand.now) = search rules in
    subst (λ z. OnOk c.push_str.result (string_bytes c.push_str.new.self ≡ string_bytes c.args.out.now ++ z))
    (parts.1 ∙ ap (λ z. after_first (λ b. b == 32) z) text) wrote

pub returns : goal.returns
returns c =
    let small : 32 < 128 = omega arith in
    let at_end = c.in-None.ensures.byte small (λ w o p. p) in
    let text = c.as_str.ensures.value ∙ c.in_ok-write_operator.ensures ∙ ap (λ z. z ++ text_of c.args.op.now) c.new-text.ensures.bytes in
    let s = c.as_str.result.now in
    let long : length s ≤ position_or_len (λ b. b == 32) s + 1 = omega (arith, at_end) in
    let none : operand_text c.args.op.now ≡ [] = sym (ap (λ z. after_first (λ b. b == 32) z) text) ∙ drop_all (position_or_len (λ b. b == 32) s + 1) s long in
    sym (append-nil (string_bytes c.args.out.now)) ∙ ap (λ z. string_bytes c.args.out.now ++ z) (sym none)
