use Rattle.std.proofs.Common.{◌≡◌, ◌++◌, OnOk, string_bytes, subst, refl, rules}
use Rattle.wasm_text.specs.Values.{byte_text}
use Rattle.wasm_text.proofs.bytes.write_byte.Goals as goal

pub returns : goal.returns
returns c =
    subst (λ text. OnOk c.push_str.result (string_bytes c.push_str.new.self ≡ string_bytes c.args.out.now ++ text))
    (c.text_in.ensures byte_text refl) (search rules)
