use Rattle.std.proofs.Common.{◌≡◌, ℕ, ◌<◌, Some}
use Rattle.std.specs.List.{slice_get}
use Rattle.wasm_types.specs.declared.fields.FieldType.{FieldType}
use Rattle.wasm_subtypes.specs.Types.{order_of}
use Rattle.wasm_subtypes.specs.Composites.{FieldFits}
use Rattle.wasm_subtypes.proofs.composites.fields_match.Given as goal

abbrev pub invariant-loop-place : goal.invariant-loop-place
invariant-loop-place l = (k : ℕ) (b : FieldType) → k < l.place → slice_get l.wanted k ≡ Some b → FieldFits (order_of l.types) (slice_get l.fields k) b
