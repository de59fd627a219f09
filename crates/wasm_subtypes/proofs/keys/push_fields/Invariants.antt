use Rattle.std.proofs.Common.{◌≡◌, ◌++◌, map, take, length}
use Rattle.wasm_subtypes.specs.Keys.{use_number, field_number}
use Rattle.wasm_subtypes.proofs.keys.push_fields.Given as goal

abbrev pub invariant-loop-i : goal.invariant-loop-i
invariant-loop-i l = l.key.items ≡ l.initial.key.items ++ map (field_number (use_number l.types (length l.types))) (take l.i l.fields)
