use Rattle.std.proofs.Common.{◌≡◌, take}
use Rattle.wasm_view.specs.Lists.{written}
use Rattle.wasm_c.proofs.text.write_bytes.Given as goal

-- The bytes before the index are written.
abbrev pub invariant-bytes : goal.invariant-bytes
invariant-bytes l = l.text ≡ written (take l.index l.bytes) l.fn.text
