use Rattle.std.proofs.Common.{◌≡◌, take, map, reverse}
use Rattle.wasm_typing.specs.Types.{value_type}
use Rattle.wasm_typing.specs.Steps.{receives}
use Rattle.wasm_check_control.proofs.control.Control.give_all.Given as goal

abbrev pub invariant-loop-i : goal.invariant-loop-i
invariant-loop-i l = l.self ≡ receives (reverse (map value_type (take l.i l.types))) l.initial.self
