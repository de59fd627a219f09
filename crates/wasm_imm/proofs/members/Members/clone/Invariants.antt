use Rattle.std.proofs.Common.{◌≡◌, ◌≤◌, length, take}
use Rattle.std.specs.Prelude.{vec_capacity}
use Rattle.wasm_imm.proofs.members.Members.clone.Given as goal

abbrev pub invariant-loop-item : goal.invariant-loop-item
invariant-loop-item g l = (l.items.items ≡ take l.item-index l.item-items) × (length l.item-items ≤ vec_capacity l.items)
