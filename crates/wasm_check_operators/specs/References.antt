-- The types of operators on references. WebAssembly Core Specification 3.0: Validation, Reference
-- Instructions and Control Instructions.
use Rattle.std.specs.Prelude.{ℕ, true, false, [], ◌∷◌}
use Rattle.wasm_below.specs.declared.types.HeapType.{HeapType}
use Rattle.wasm_typing.specs.declared.value_type.ValueType.TheVariants.{Ref}
use Rattle.wasm_typing.specs.declared.value_type.Heap.TheVariants.{Known}
use Rattle.wasm_typing.specs.Types.{Stack}
use Rattle.wasm_typing.specs.Matching.{defined}
use Rattle.wasm_typing.specs.Rules.{Rule, fixed, invalid, or_invalid}
use Rattle.wasm_check_control.specs.Environment.{Environment}
use Rattle.wasm_check_operators.specs.Forms.{is_valid_heap, only_if}

abbrev pub ref_null : Environment → HeapType → Rule
ref_null E h = only_if (is_valid_heap E.order h) (fixed [] (Ref true (Known h) ∷ []))

-- The function occurs outside of function bodies. The result has the function's type.
abbrev pub ref_func : Environment → ℕ → Rule
ref_func E x = only_if (E.is_declared x) (or_invalid (λ (i : ℕ). fixed [] (Ref false (defined i) ∷ [])) (E.type_indices x))

-- br_on_non_null takes a reference above the label's other operands. The last type of the label is a
-- reference.
abbrev pub branches_on_non_null : Stack → Rule
branches_on_non_null (Ref n h ∷ s) = fixed (Ref true h ∷ s) s
branches_on_non_null _ = invalid
