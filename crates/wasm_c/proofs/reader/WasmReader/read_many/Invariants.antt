use Rattle.std.proofs.Common.{◌≡◌, ◌-◌, length}
use Rattle.wasm_c.specs.Steps.{IsReader, reader_at}
use Rattle.wasm_c.proofs.Batch.{Batch}
use Rattle.wasm_c.proofs.reader.WasmReader.read_many.Given as goal

-- The operators that were read are at the start of the array, and the bytes ahead are at the reader's position.
abbrev pub invariant-places : goal.invariant-places
invariant-places l = Batch l.bytes l.fn.self l.self l.fn.frames l.frames l.found l.fn.out l.out × IsReader l.bytes (length l.frames) l.self
    × (l.ahead ≡ reader_at l.bytes l.self)

abbrev pub decreases-places : goal.decreases-places
decreases-places l = length l.fn.out - l.found
