use Rattle.std.proofs.Common.{◌≡◌, ℕ, List, [], ◌∷◌, ◌++◌, map, refl, sym, ap, ◌∙◌, append_assoc, append-nil}
use Rattle.wasm_operators.specs.below.declared.features.WasmFeatures.{WasmFeatures}
use Rattle.wasm_operators.specs.below.Number.{EncodesUnsigned}
use Rattle.wasm_operators.specs.below.Source.{Reader, rest, HasRead}
use Rattle.wasm_operators.specs.imm.declared.ordering.Ordering.{Ordering}
use Rattle.wasm_operators.specs.imm.Immediate.{Immediate, kind_of, EncodesImmediates, unsigned_32}
use Rattle.wasm_operators.specs.imm.Orderings.{EncodesOrderingByte}
use Rattle.uses.specs.Immediates.{access, AreAccess}

-- What the law `immediates` states.
abbrev pub AreOne : WasmFeatures → Type 0
AreOne f = (is js : List Immediate) (a b x y : List ℕ) → map kind_of is ≡ map kind_of js → EncodesImmediates f a is → EncodesImmediates f b js →
    a ++ x ≡ b ++ y → (is ≡ js) × (a ≡ b)

pub access_known : (old mid new : Reader) (o : Ordering) (n : ℕ) (is : List Immediate) (text more : List ℕ) → AreOne old.features →
    HasRead EncodesOrderingByte o old mid → HasRead (EncodesUnsigned 32) n mid new → rest old ≡ text ++ more →
    AreAccess is → EncodesImmediates old.features text is → is ≡ access o n
access_known old mid new o n is text more one (byte, orders, begins) (number, counts, ends) parts kinds known =
    let taken = begins.parts ∙ ap (λ left. byte ++ left) ends.parts ∙ sym (append_assoc byte number (rest new)) in
    let number_last : EncodesImmediates old.features number (unsigned_32 n ∷ []) = (number, [], sym (append-nil number), counts, refl) in
    (one is (access o n) text (byte ++ number) more (rest new) kinds known (byte, number, refl, orders, number_last) (sym parts ∙ taken)).0
