-- Parts with their laws.
use Rattle.std.proofs.Common.{◌≡◌, ℕ, ◌-◌, List, [], ◌∷◌, ◌++◌, length, refl, sym, ◌∙◌, arith}
use Rattle.wasm_below.specs.declared.message.Message.{Message}
use Rattle.wasm_below.specs.Source.{Reader, offset_of, EndsWithin}
use Rattle.wasm_grammars.specs.Grammar.{IsPart}

-- `n` bytes, which are their own encoding.
abbrev pub IsBytes : ℕ → List ℕ → List ℕ → Type 0
IsBytes n text bytes = (text ≡ bytes) × (length text ≡ n)

pub same_front : (a b x y : List ℕ) → length a ≡ length b → a ++ x ≡ b ++ y → a ≡ b
same_front [] [] x y n e = refl
same_front [] (d ∷ b) x y n e = absurd (omega (arith, n))
same_front (c ∷ a) [] x y n e = absurd (omega (arith, n))
same_front (c ∷ a) (d ∷ b) x y n e =
    let head : c ≡ d = cc e in
    let tail : a ≡ b = same_front a b x y (omega (arith, n)) (cc e) in
    cc

pub bytes_are_part : (n : ℕ) → IsPart (IsBytes n) (EndsWithin n)
bytes_are_part n = record {
  code = λ a b x y m k p q e. (let same = same_front a b x y (p.1 ∙ sym q.1) e in (same, sym p.0 ∙ same ∙ q.0));
  determines = λ m k r a b h q. (h.0 ∙ sym q.0, h.1 ∙ sym q.1);
}

-- The error at the byte before the reader.
abbrev pub BeforeFault : Message → Message → Reader → ℕ → Type 0
BeforeFault k m r offset = (m ≡ k) × (offset ≡ offset_of r - 1)

pub before_is_part : {X : Type 0} (k : Message) → IsPart (λ text (x : X). ⊥) (BeforeFault k)
before_is_part k = record {
  code = λ a b x y m n p q e. absurd p;
  determines = λ m l r a b h q. (h.0 ∙ sym q.0, h.1 ∙ sym q.1);
}
