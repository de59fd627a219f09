-- Specification: Binary Format, Control Instructions.
use Rattle.std.specs.Prelude.{◌≡◌, ℕ, Bool, true, false, List, ◌∷◌, ◌++◌}
use Rattle.wasm_below.specs.Number.{EncodesUnsigned}
use Rattle.wasm_below.specs.Reference.{Reference}
use Rattle.wasm_below.specs.TypeEncoding.{EncodesHeapType}
use Rattle.wasm_imm.specs.declared.cast.Cast.{Cast}

-- Bit 0 is set if the first type includes null, bit 1 if the second does.
abbrev pub cast_flags : Bool → Bool → ℕ
cast_flags false false = 0
cast_flags true false = 1
cast_flags false true = 2
cast_flags true true = 3

-- The flags, the label and both heap types.
--   castop ::= 0x00 ⇒ (ε, ε) | 0x01 ⇒ (null, ε) | 0x02 ⇒ (ε, null) | 0x03 ⇒ (null, null)
--   0xFB 24:u32 (null1?, null2?):castop l:labelidx ht1:heaptype ht2:heaptype ⇒ br_on_cast l (ref null1? ht1) (ref null2? ht2)
abbrev pub EncodesCast : List ℕ → Cast → Type 0
EncodesCast text c = (label first second : List ℕ) × (text ≡ cast_flags c.from.nullable c.to.nullable ∷ (label ++ (first ++ second))) × EncodesUnsigned 32 label c.relative_depth × EncodesHeapType first c.from.heap_type × EncodesHeapType second c.to.heap_type

abbrev pub EncodesReference : Bool → List ℕ → Reference → Type 0
EncodesReference nullable text r = (r.nullable ≡ nullable) × EncodesHeapType text r.heap_type
