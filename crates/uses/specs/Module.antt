-- Specification: Validation, Instructions; Appendix, Validation Algorithm.
use Rattle.std.specs.Prelude.{ℕ, ◌-◌, List, length, Option, None, if◌then◌else◌, nat_lt, min}
use Rattle.std.specs.List.{slice_get}
use Rattle.std.specs.Option.{option_map}
use Rattle.wasm_operators.specs.below.declared.types.ValType.TheVariants as value
use Rattle.wasm_operators.specs.grammar.declared.frame_kind.FrameKind.{FrameKind}
use Rattle.wasm_operators.specs.imm.declared.block_type.BlockType.{BlockType}
use Rattle.wasm_operators.specs.imm.declared.block_type.BlockType.TheVariants as block
use Rattle.wasm_operators.specs.instr.ModuleFacts.{ModuleFacts}
use Rattle.uses.specs.declared.module.BlockArity.{BlockArity}
use Rattle.uses.specs.declared.module.BlockArity.TheVariants as arity
use Rattle.uses.specs.declared.module.Frame.{Frame}

-- A block type of this arity; its value type is arbitrary.
abbrev pub block_of : BlockArity → BlockType
block_of arity.Nothing = block.Empty
block_of arity.OneResult = block.Value value.I32
block_of (arity.OfType index) = block.FuncType index

abbrev pub arity_of : BlockType → BlockArity
arity_of block.Empty = arity.Nothing
arity_of (block.Value ty) = arity.OneResult
arity_of (block.FuncType index) = arity.OfType index

-- The block type and the kind of the frame at a depth. The innermost frame is the last.
abbrev pub label : List Frame → ℕ → Option (BlockType × FrameKind)
label frames depth = if nat_lt depth (length frames) then option_map (λ f. (block_of f.arity, f.kind)) (slice_get frames (length frames - 1 - depth)) else None

-- A module with these function types, functions and open frames.
abbrev pub facts : List (ℕ × ℕ) → List ℕ → List Frame → ModuleFacts
facts types functions frames = record {
  func_type_arity = slice_get types;
  struct_type_fields = λ _. None;
  cont_type_func = λ _. None;
  cont_type_of_last_param = λ _. None;
  tag_type_arity = λ _. None;
  type_index_of_function = slice_get functions;
  control_stack_height = min (length frames) 4294967295;
  label_block = label frames;
}
