use Rattle.std.proofs.Common.{◌≡◌, ◌++◌, OnOk, string_bytes, subst, refl, rules}
use Rattle.wasm_text.specs.Values.{spaced_byte}
use Rattle.wasm_text.proofs.bytes.write_spaced_byte.Goals as goal

pub returns : goal.returns
returns c =
    subst (λ text. OnOk c.push_str.result (string_bytes c.push_str.new.self ≡ string_bytes c.args.out.now ++ text))
    (c.text_in.ensures spaced_byte refl) (search rules)
