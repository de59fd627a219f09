use Rattle.std.proofs.Common.{ℕ, ◌<◌, ◌≤◌}
use Rattle.std.specs.List.{slice_get}
use Rattle.wasm_subtypes.specs.Composites.{IsValid}
use Rattle.wasm_subtypes.proofs.validity.are_valid.Given as goal

abbrev pub invariant-loop-index : goal.invariant-loop-index
invariant-loop-index l = (i : ℕ) → l.first ≤ i → i < l.index → IsValid l.types (slice_get l.types i)
