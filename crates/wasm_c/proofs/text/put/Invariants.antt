use Rattle.std.proofs.Common.{take}
use Rattle.wasm_c.specs.Texts.{PutsPiece}
use Rattle.wasm_c.proofs.text.put.Given as goal

-- The bytes before this one are written.
abbrev pub invariant-bytes : goal.invariant-bytes
invariant-bytes l = PutsPiece (take l.byte-index l.bytes) l.fn.at l.fn.text l.next l.text
