use Rattle.std.proofs.Common.{◌≡◌, take, length}
use Rattle.wasm_subtypes.specs.Keys.{use_number, group_numbers}
use Rattle.wasm_subtypes.proofs.keys.group_key.Given as goal

abbrev pub invariant-loop-i : goal.invariant-loop-i
invariant-loop-i l = l.key.items ≡ group_numbers (use_number l.types (length l.types)) (take l.i l.group)
