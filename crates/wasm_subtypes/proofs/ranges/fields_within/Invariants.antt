use Rattle.std.proofs.Common.{◌≡◌, ℕ, ◌<◌, Some}
use Rattle.std.specs.List.{slice_get}
use Rattle.wasm_types.specs.declared.fields.FieldType.{FieldType}
use Rattle.wasm_subtypes.specs.Composites.{FieldWithin}
use Rattle.wasm_subtypes.proofs.ranges.fields_within.Given as goal

abbrev pub invariant-loop-place : goal.invariant-loop-place
invariant-loop-place l = (k : ℕ) (a : FieldType) → k < l.place → slice_get l.fields k ≡ Some a → FieldWithin l.count a
