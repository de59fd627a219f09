-- Specification: Binary Format, Lists of bytes.
use Rattle.std.specs.Prelude.{ℕ, List}
use Rattle.wasm_below.specs.declared.features.WasmFeatures.{WasmFeatures}
use Rattle.wasm_below.specs.Source.{Reader, reader_of, EndsWithin}
use Rattle.wasm_grammars.specs.BlockLaws.{IsBytes, bytes_are_part}
use Rattle.wasm_grammars.specs.Grammar.{Grammar, part, done, here, thing}
use Rattle.wasm_grammars.specs.Parts.{◌>>=◌, never, u32}

-- `n` bytes.
abbrev pub block : ℕ → Grammar (List ℕ)
block n = part (IsBytes n) (EndsWithin n) never (bytes_are_part n)

-- A u32, and that many bytes.
abbrev pub sized : Grammar (List ℕ)
sized = do
  n ← u32
  block n

-- A reader of the next `n` bytes.
abbrev pub contents : WasmFeatures → ℕ → Grammar Reader
contents features n = do
  at ← here
  bytes ← block n
  done (reader_of features at bytes)

-- A u32, and a reader of that many bytes.
abbrev pub sized_contents : WasmFeatures → Grammar Reader
sized_contents features = do
  n ← u32
  thing (contents features n)
