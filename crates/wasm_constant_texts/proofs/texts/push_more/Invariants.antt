use Rattle.std.proofs.Common.{◌≡◌, ◌++◌, string_bytes, flat_map, take}
use Rattle.wasm_constant_texts.specs.ConstantTexts.{next_operator}
use Rattle.wasm_constant_texts.proofs.texts.push_more.Given as goal

abbrev pub invariant-loop-placed : goal.invariant-loop-placed
invariant-loop-placed l = string_bytes l.out ≡ string_bytes l.fn.out ++ flat_map (λ p. next_operator l.fn.names p.0) (take l.placed-index l.more)
