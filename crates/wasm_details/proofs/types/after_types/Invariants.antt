use Rattle.std.proofs.Common.{◌≡◌, drop}
use Rattle.wasm_details.specs.Types.{after_types}
use Rattle.wasm_details.proofs.types.after_types.Given as goal

abbrev pub invariant-loop-ty : goal.invariant-loop-ty
invariant-loop-ty l = after_types l.index l.types ≡ after_types l.next (drop l._ty-index l.types)
