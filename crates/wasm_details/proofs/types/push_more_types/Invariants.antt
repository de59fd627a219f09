use Rattle.std.proofs.Common.{◌≡◌, ◌++◌, string_bytes, flat_map, take}
use Rattle.wasm_details.specs.Types.{next_type}
use Rattle.wasm_details.proofs.types.push_more_types.Given as goal

abbrev pub invariant-loop-ty : goal.invariant-loop-ty
invariant-loop-ty l = string_bytes l.out ≡ string_bytes l.fn.out ++ flat_map next_type (take l.ty-index l.types)
