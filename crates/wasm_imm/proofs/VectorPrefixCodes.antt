use Rattle.std.proofs.Common.{◌≡◌, ℕ, List, [], ◌∷◌, ◌++◌, length, refl, sym, ap, ◌∙◌, arith}
use Rattle.wasm_imm.specs.declared.constants.V128.{V128}
use Rattle.wasm_below.specs.Sequence.{PrefixCode}
use Rattle.wasm_imm.specs.Vectors.{EncodesSixteen, EncodesVector}

pub same_length : (a b x y : List ℕ) → length a ≡ length b → a ++ x ≡ b ++ y → a ≡ b
same_length [] [] x y l e = refl
same_length [] (d ∷ b) x y l e = absurd (omega arith)
same_length (c ∷ a) [] x y l e = absurd (omega arith)
same_length (c ∷ a) (d ∷ b) x y l e =
    let head : c ≡ d = cc e in
    let tail = same_length a b x y (omega arith) (cc e) in
    cc (head, tail)

pub sixteen_prefix_code : PrefixCode EncodesSixteen
sixteen_prefix_code a b x y m n p q e =
    let same = same_length a b x y (ap length p.0 ∙ p.1 ∙ sym q.1 ∙ sym (ap length q.0)) e in
    (same, sym p.0 ∙ same ∙ q.0)

pub vector_prefix_code : PrefixCode EncodesVector
vector_prefix_code a b x y m n p q e =
    let o = sixteen_prefix_code a b x y m.0 n.0 p q e in
    let make : List ℕ → V128 = λ bytes. record { 0 = bytes } in
    (o.0, ap make o.1)
