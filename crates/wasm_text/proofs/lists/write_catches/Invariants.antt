use Rattle.std.proofs.Common.{◌≡◌, ◌++◌, string_bytes, flat_map, take}
use Rattle.wasm_text.specs.Values.{catch_text}
use Rattle.wasm_text.proofs.lists.write_catches.Given as goal

abbrev pub invariant-loop-catch : goal.invariant-loop-catch
invariant-loop-catch l = string_bytes l.out ≡ string_bytes l.fn.out ++ flat_map catch_text (take l.catch-index l.catches)
