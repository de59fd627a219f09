use Rattle.std.proofs.Common.{◌≡◌, ◌++◌, string_bytes, flat_map, take}
use Rattle.wasm_text.specs.Values.{spaced_byte}
use Rattle.wasm_text.proofs.rows.write_shown_bytes.Given as goal

abbrev pub invariant-loop-byte : goal.invariant-loop-byte
invariant-loop-byte l = string_bytes l.out ≡ string_bytes l.fn.out ++ flat_map spaced_byte (take l.byte-index l.bytes)
