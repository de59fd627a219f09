use Rattle.std.proofs.Common.{◌≡◌, ℕ, List, [], refl}
use Rattle.std.specs.Str.{IsUtf8, is_utf8}
use Rattle.std.proofs.lemmas.Str.{IsUtf8-from_is_utf8, is_utf8-from_IsUtf8}
use Rattle.wasm_module.specs.Bodies.{text_of_name}
use Rattle.std.proofs.lemmas.Bool.{false_from_ne_true}

pub name_is_text : (bs : List ℕ) → IsUtf8 bs → bs ≡ text_of_name bs
name_is_text bs p = rw (is_utf8-from_IsUtf8 bs p) refl

pub name_is_none : (bs : List ℕ) → (IsUtf8 bs → ⊥) → [] ≡ text_of_name bs
name_is_none bs p = rw (false_from_ne_true (is_utf8 bs) (λ q. p (IsUtf8-from_is_utf8 bs q))) refl
