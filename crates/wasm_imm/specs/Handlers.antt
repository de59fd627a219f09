-- Specification: Binary Format, Control Instructions; proposal stack switching.
use Rattle.std.specs.Prelude.{◌≡◌, ℕ, List, ◌∷◌, ◌++◌}
use Rattle.wasm_below.specs.Number.{EncodesUnsigned}
use Rattle.wasm_imm.specs.declared.handlers.Catch.{Catch}
use Rattle.wasm_imm.specs.declared.handlers.Catch.TheVariants as clause
use Rattle.wasm_imm.specs.declared.handlers.Handle.{Handle}
use Rattle.wasm_imm.specs.declared.handlers.Handle.TheVariants as handle

abbrev pub EncodesPair : List ℕ → ℕ × ℕ → Type 0
EncodesPair text p = (first second : List ℕ) × (text ≡ first ++ second) × EncodesUnsigned 32 first p.0 × EncodesUnsigned 32 second p.1

abbrev pub catch_byte : Catch → ℕ
catch_byte (clause.One tag label) = 0x00
catch_byte (clause.OneRef tag label) = 0x01
catch_byte (clause.All label) = 0x02
catch_byte (clause.AllRef label) = 0x03

abbrev pub EncodesCatchIndices : List ℕ → Catch → Type 0
EncodesCatchIndices text (clause.One tag label) = EncodesPair text (tag, label)
EncodesCatchIndices text (clause.OneRef tag label) = EncodesPair text (tag, label)
EncodesCatchIndices text (clause.All label) = EncodesUnsigned 32 text label
EncodesCatchIndices text (clause.AllRef label) = EncodesUnsigned 32 text label

-- The first byte and the indices.
--   catch ::= 0x00 x:tagidx l:labelidx | 0x01 x:tagidx l:labelidx | 0x02 l:labelidx | 0x03 l:labelidx
abbrev pub EncodesCatch : List ℕ → Catch → Type 0
EncodesCatch text c = (after : List ℕ) × (text ≡ catch_byte c ∷ after) × EncodesCatchIndices after c

abbrev pub handle_byte : Handle → ℕ
handle_byte (handle.OnLabel tag label) = 0x00
handle_byte (handle.OnSwitch tag) = 0x01

abbrev pub EncodesHandleIndices : List ℕ → Handle → Type 0
EncodesHandleIndices text (handle.OnLabel tag label) = EncodesPair text (tag, label)
EncodesHandleIndices text (handle.OnSwitch tag) = EncodesUnsigned 32 text tag

-- The first byte, a tag, and for `OnLabel` a label.
abbrev pub EncodesHandle : List ℕ → Handle → Type 0
EncodesHandle text h = (after : List ℕ) × (text ≡ handle_byte h ∷ after) × EncodesHandleIndices after h

-- The rest of a catch after this first byte.
abbrev pub IsCatchAfterByte : ℕ → List ℕ → Catch → Type 0
IsCatchAfterByte byte text c = (byte ≡ catch_byte c) × EncodesCatchIndices text c

abbrev pub IsHandleAfterByte : ℕ → List ℕ → Handle → Type 0
IsHandleAfterByte byte text h = (byte ≡ handle_byte h) × EncodesHandleIndices text h
