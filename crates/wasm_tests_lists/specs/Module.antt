use Rattle.std.specs.Prelude.{ℕ, ◌==◌, if◌then◌else◌, Option, Some, None}
use Rattle.wasm_grammar.specs.declared.frame_kind.FrameKind.TheVariants as frame
use Rattle.wasm_imm.specs.declared.block_type.BlockType.TheVariants as block
use Rattle.wasm_instr.specs.ModuleFacts.{ModuleFacts}
use Rattle.wasm_tests_lists.specs.declared.uniform.Uniform.{Uniform}

abbrev pub at_index : {X : Type 0} → ℕ → X → (ℕ → Option X) → ℕ → Option X
at_index index outcome others i = if i == index then Some outcome else others i

abbrev pub nowhere : {X : Type 0} → ℕ → Option X
nowhere i = None

abbrev pub facts_of_module : ModuleFacts
facts_of_module = record {
  func_type_arity = at_index 0 (2, 1) (at_index 4 (1, 1) nowhere);
  struct_type_fields = at_index 1 3 nowhere;
  cont_type_func = at_index 2 0 (at_index 3 4 nowhere);
  cont_type_of_last_param = at_index 0 3 nowhere;
  tag_type_arity = at_index 0 (1, 0) nowhere;
  type_index_of_function = at_index 0 0 nowhere;
  control_stack_height = 2;
  label_block = at_index 0 (block.FuncType 0, frame.Loop) (at_index 1 (block.Empty, frame.Block) nowhere);
}

-- The results of a module in which each method returns one result at all indices.
abbrev pub facts_of_uniform : Uniform → ModuleFacts
facts_of_uniform m = record {
  func_type_arity = λ _. m.function;
  struct_type_fields = λ _. m.fields;
  cont_type_func = λ _. m.continuation;
  cont_type_of_last_param = λ _. m.last;
  tag_type_arity = λ _. m.tag;
  type_index_of_function = λ _. m.type_of_function;
  control_stack_height = m.height;
  label_block = λ _. m.label;
}
