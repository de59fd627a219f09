-- The types of exceptions. WebAssembly Core Specification 3.0: Validation, Control Instructions,
-- throw and try_table.
use Rattle.std.specs.Prelude.{ℕ, Bool, true, false, if◌then◌else◌, List, [], ◌∷◌, Option, Some, None}
use Rattle.std.specs.Option.{option_map, option_and_then}
use Rattle.wasm_below.specs.declared.types.AbstractHeapType.TheVariants as ty
use Rattle.wasm_imm.specs.declared.handlers.Catch.{Catch}
use Rattle.wasm_imm.specs.declared.handlers.Catch.TheVariants as clause
use Rattle.wasm_typing.specs.declared.value_type.ValueType.TheVariants.{Ref}
use Rattle.wasm_typing.specs.Types.{Stack, FunctionType}
use Rattle.wasm_typing.specs.Matching.{TypeOrder, abstract}
use Rattle.wasm_typing.specs.Checking.{all_match}
use Rattle.wasm_typing.specs.Rules.{at}
use Rattle.wasm_check_control.specs.Environment.{Environment}

-- The parameters of a type that has no results.
abbrev pub params_only : Stack → Stack → Option Stack
params_only takes [] = Some takes
params_only takes (v ∷ leaves) = None

-- The operands of an exception with the tag at this index.
abbrev pub operands_of_tag : Environment → ℕ → Option Stack
operands_of_tag E x = option_and_then (λ (f : FunctionType). params_only f.takes f.leaves) (E.tags x)

-- Above these operands, a reference to the exception, which is not null.
abbrev pub with_exception : Stack → Stack
with_exception s = Ref false (abstract false ty.Exn) ∷ s

-- There are these operands and this label, and the operands match the label.
abbrev pub passes : TypeOrder → Option Stack → Option Stack → Bool
passes O (Some s) (Some label) = all_match O s label
passes O _ _ = false

-- A clause of a try_table is valid. The labels are those outside of the try_table.
abbrev pub clause_fits : Environment → List Stack → Catch → Bool
clause_fits E labels (clause.One x l) = passes E.order (operands_of_tag E x) (at labels l)
clause_fits E labels (clause.OneRef x l) = passes E.order (option_map with_exception (operands_of_tag E x)) (at labels l)
clause_fits E labels (clause.All l) = passes E.order (Some []) (at labels l)
clause_fits E labels (clause.AllRef l) = passes E.order (Some (with_exception [])) (at labels l)

abbrev pub clauses_fit : Environment → List Stack → List Catch → Bool
clauses_fit E labels [] = true
clauses_fit E labels (c ∷ cs) = if clause_fits E labels c then clauses_fit E labels cs else false
