use Rattle.std.proofs.Common.{◌≡◌, length, take}
use Rattle.std.specs.Prelude.{vec_capacity}
use Rattle.wasm_operators.proofs.stack.ControlStack.clone.Given as goal

-- The capacity is the number of all frames.
abbrev pub invariant-loop-frame : goal.invariant-loop-frame
invariant-loop-frame l = (l.around.items ≡ take l.frame-index l.frame-items) × (vec_capacity l.around ≡ length l.frame-items)
