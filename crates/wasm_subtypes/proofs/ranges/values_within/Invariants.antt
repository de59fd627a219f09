use Rattle.std.proofs.Common.{◌≡◌, ℕ, ◌<◌, Some}
use Rattle.std.specs.List.{slice_get}
use Rattle.wasm_below.specs.declared.types.ValType.{ValType}
use Rattle.wasm_subtypes.specs.Composites.{ValueWithin}
use Rattle.wasm_subtypes.proofs.ranges.values_within.Given as goal

abbrev pub invariant-loop-place : goal.invariant-loop-place
invariant-loop-place l = (k : ℕ) (a : ValType) → k < l.place → slice_get l.types k ≡ Some a → ValueWithin l.count a
