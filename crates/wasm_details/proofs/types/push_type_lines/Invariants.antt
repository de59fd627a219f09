use Rattle.std.proofs.Common.{◌≡◌, ◌++◌, string_bytes, drop}
use Rattle.wasm_details.specs.Types.{type_lines}
use Rattle.wasm_details.proofs.types.push_type_lines.Given as goal

abbrev pub invariant-loop-ty : goal.invariant-loop-ty
invariant-loop-ty l = string_bytes l.fn.out ++ type_lines l.index l.types ≡ string_bytes l.out ++ type_lines l.next (drop l.ty-index l.types)
