use Rattle.std.proofs.Common.{◌≡◌, ◌++◌, string_bytes, flat_map, take}
use Rattle.wasm_text.specs.Values.{value_type_text}
use Rattle.wasm_text.proofs.lists.write_types.Given as goal

abbrev pub invariant-loop-ty : goal.invariant-loop-ty
invariant-loop-ty l = string_bytes l.out ≡ string_bytes l.fn.out ++ flat_map value_type_text (take l.ty-index l.types)
