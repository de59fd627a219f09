use Rattle.std.proofs.Common.{◌≡◌, ℕ, ◌≤◌, ◌-◌, suc, length, get_or}
use Rattle.wasm_check_control.proofs.local_stack.lengthen.Given as goal

abbrev pub invariant-grow : goal.invariant-grow
invariant-grow l = ((i : ℕ) → get_or l.places.items i 0 ≡ get_or l.initial.places.items i 0) × (length l.initial.places.items ≤ length l.places.items)

abbrev pub decreases-grow : goal.decreases-grow
decreases-grow l = suc l.local - length l.places.items
