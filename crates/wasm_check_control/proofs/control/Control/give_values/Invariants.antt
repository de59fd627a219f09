use Rattle.std.proofs.Common.{◌≡◌, take, reverse}
use Rattle.wasm_typing.specs.Steps.{receives}
use Rattle.wasm_check_control.proofs.control.Control.give_values.Given as goal

abbrev pub invariant-loop-ty : goal.invariant-loop-ty
invariant-loop-ty l = l.self ≡ receives (reverse (take l.ty-index l.types)) l.initial.self
