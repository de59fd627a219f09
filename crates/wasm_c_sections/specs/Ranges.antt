-- Where things are in a module. Specification: Binary Format, Names.
use Rattle.std.specs.Prelude.{ℕ, ◌-◌, List, length}
use Rattle.wasm_c_sections.specs.declared.range.WasmRange.{WasmRange}
use Rattle.wasm_externals.specs.Texts.{text}
use Rattle.wasm_grammars.specs.Grammar.{Grammar, done, here, thing}
use Rattle.wasm_grammars.specs.Parts.{◌>>=◌}

-- The bytes from one offset up to another.
abbrev pub range_of : ℕ → ℕ → WasmRange
range_of start end = record { offset = start; length = end - start }

-- No bytes.
abbrev pub no_range : WasmRange
no_range = record { offset = 0; length = 0 }

-- The bytes before this offset.
abbrev pub ending_at : ℕ → List ℕ → WasmRange
ending_at end bytes = record { offset = end - length bytes; length = length bytes }

-- A text, which ends where it is read.
abbrev pub placed_text : Grammar WasmRange
placed_text = do
  bytes ← thing text
  end ← here
  done (ending_at end bytes)
