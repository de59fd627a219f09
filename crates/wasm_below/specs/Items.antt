use Rattle.std.specs.Prelude.{ℕ}
use Rattle.wasm_below.specs.declared.from_reader.BinaryReaderIter.{BinaryReaderIter}
use Rattle.wasm_below.specs.Source.{Reader}

-- How many items are left, in the reader `items_reader`, whose ghost name is `items_name`.
abbrev pub items_left : {T M : Type 0} → BinaryReaderIter T M → ℕ
items_left items = items.remaining

abbrev pub items_reader : {T M : Type 0} → BinaryReaderIter T M → Reader
items_reader items = items.reader.now

abbrev pub items_name : {T M : Type 0} → BinaryReaderIter T M → ℕ
items_name items = items.reader.ghost_name
