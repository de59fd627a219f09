use Rattle.std.proofs.Common.{inl, inr, [], ◌∷◌, refl, sym, ap, ◌∙◌}
use Rattle.wasm_below.specs.declared.features.WasmFeatures.{WasmFeatures}
use Rattle.wasm_below.specs.Sequence.{PrefixCode}
use Rattle.wasm_below.proofs.PrefixCode.{unsigned_prefix_code, first_byte}
use Rattle.wasm_imm.specs.MemoryArgument.{ordering_byte}
use Rattle.wasm_imm.specs.Indices.{EncodesIndex}
use Rattle.wasm_imm.specs.Orderings.{EncodesOrderingByte, EncodesFence}
use Rattle.wasm_imm.proofs.FlagsNumber.{lone_byte_injective}

pub index_prefix_code : (feature f : WasmFeatures) → PrefixCode (EncodesIndex feature f)
index_prefix_code feature f a b x y m n (inl p) (inl q) e = unsigned_prefix_code a b 32 x y m n p.1 q.1 e
index_prefix_code feature f a b x y m n (inl p) (inr q) e = absurd (q.0 p.0)
index_prefix_code feature f a b x y m n (inr p) (inl q) e = absurd (p.0 q.0)
index_prefix_code feature f a b x y m n (inr p) (inr q) e = (p.1 ∙ sym q.1, p.2 ∙ sym q.2)

pub ordering_byte_prefix_code : PrefixCode EncodesOrderingByte
ordering_byte_prefix_code a b x y m n p q e =
    let same = first_byte a b x y (ordering_byte m) (ordering_byte n) p q e in
    (p ∙ ap (λ z. z ∷ []) same ∙ sym q, lone_byte_injective m n (ordering_byte m) refl same)

pub fence_prefix_code : (f : WasmFeatures) → PrefixCode (EncodesFence f)
fence_prefix_code f a b x y m n (inl p) (inl q) e = ordering_byte_prefix_code a b x y m n p.1 q.1 e
fence_prefix_code f a b x y m n (inl p) (inr q) e = absurd (q.0 p.0)
fence_prefix_code f a b x y m n (inr p) (inl q) e = absurd (p.0 q.0)
fence_prefix_code f a b x y m n (inr p) (inr q) e = (p.1 ∙ sym q.1, p.2 ∙ sym q.2)
