-- Specification: Binary Format, Control Instructions.
use Rattle.std.specs.Prelude.{◌≡◌, ℕ, List, [], ◌∷◌, pos}
use Rattle.wasm_below.specs.Number.{EncodesSigned}
use Rattle.wasm_below.specs.TypeEncoding.{EncodesValType}
use Rattle.wasm_imm.specs.declared.block_type.BlockType.{BlockType}
use Rattle.wasm_imm.specs.declared.block_type.BlockType.TheVariants as block

-- The byte 0x40, a value type, or a function type's index as a signed number.
--   blocktype ::= 0x40 ⇒ ε | t:valtype ⇒ t | i:s33 ⇒ i, if i ≥ 0
abbrev pub EncodesBlockType : List ℕ → BlockType → Type 0
EncodesBlockType text block.Empty = text ≡ 0x40 ∷ []
EncodesBlockType text (block.Value ty) = EncodesValType text ty
EncodesBlockType text (block.FuncType index) = EncodesSigned 33 text (pos index)

abbrev pub EncodesFunctionType : List ℕ → BlockType → Type 0
EncodesFunctionType text (block.FuncType index) = EncodesSigned 33 text (pos index)
EncodesFunctionType text _ = ⊥
