use Rattle.std.proofs.Common.{◌≡◌, ◌++◌, string_bytes, flat_map, take}
use Rattle.wasm_escapes.specs.Escapes.{ascii_byte}
use Rattle.wasm_escapes.proofs.escapes.write_ascii.Given as goal

abbrev pub invariant-loop-byte : goal.invariant-loop-byte
invariant-loop-byte l = string_bytes l.out ≡ string_bytes l.fn.out ++ flat_map ascii_byte (take l.byte-index l.name)
