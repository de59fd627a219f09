use Rattle.std.specs.Prelude.{ℕ, Option}
use Rattle.wasm_grammar.specs.declared.frame_kind.FrameKind.{FrameKind}
use Rattle.wasm_imm.specs.declared.block_type.BlockType.{BlockType}

-- The results of the methods of `ModuleArity`.
pub record ModuleFacts : Type 0 where
  pub func_type_arity : ℕ → Option (ℕ × ℕ)
  pub struct_type_fields : ℕ → Option ℕ
  pub cont_type_func : ℕ → Option ℕ
  pub cont_type_of_last_param : ℕ → Option ℕ
  pub tag_type_arity : ℕ → Option (ℕ × ℕ)
  pub type_index_of_function : ℕ → Option ℕ
  pub control_stack_height : ℕ
  pub label_block : ℕ → Option (BlockType × FrameKind)
