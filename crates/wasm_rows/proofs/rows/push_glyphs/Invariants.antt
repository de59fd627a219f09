use Rattle.std.proofs.Common.{◌≡◌, ◌++◌, string_bytes, map, take}
use Rattle.wasm_rows.specs.Rows.{glyph}
use Rattle.wasm_rows.proofs.rows.push_glyphs.Given as goal

abbrev pub invariant-loop-byte : goal.invariant-loop-byte
invariant-loop-byte l = string_bytes l.out ≡ string_bytes l.fn.out ++ map glyph (take l.byte-index l.bytes)
