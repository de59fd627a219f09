use Rattle.std.proofs.Common.{◌≡◌, flat_map, take}
use Rattle.wasm_escapes.specs.Escapes.{utf8_byte}
use Rattle.wasm_escapes.proofs.escapes.utf8_name.Given as goal

abbrev pub invariant-loop-byte : goal.invariant-loop-byte
invariant-loop-byte l = l.shown.items ≡ flat_map utf8_byte (take l.byte-index l.name)
