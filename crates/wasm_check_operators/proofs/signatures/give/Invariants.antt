use Rattle.std.proofs.Common.{◌≡◌, take, map, reverse}
use Rattle.wasm_typing.specs.Types.{value_type}
use Rattle.wasm_signatures.specs.Types.{value_of}
use Rattle.wasm_check_operators.specs.Forms.{address_value}
use Rattle.wasm_typing.specs.Steps.{receives}
use Rattle.wasm_check_operators.proofs.signatures.give.Given as goal

abbrev pub invariant-loop-i : goal.invariant-loop-i
invariant-loop-i l = l.control ≡ receives (reverse (map (λ t. value_type (value_of (address_value l.is_64) t)) (take l.i l.types))) l.initial.control
