-- Specification: Binary Format, Lists.
use Rattle.std.specs.Prelude.{[]}
use Rattle.wasm_below.specs.declared.features.WasmFeatures.{WasmFeatures}
use Rattle.wasm_below.specs.Source.{reader_of}
use Rattle.wasm_grammars.specs.Grammar.{Grammar, done, here, spanned, thing}
use Rattle.wasm_grammars.specs.Parts.{◌>>=◌, u32, more}
use Rattle.wasm_sections.specs.Items.{Counted}

-- A number, and that many items. The value is the number and a reader of the items' bytes.
abbrev pub items : {X : Type 0} → WasmFeatures → Grammar X → Grammar Counted
items features g = do
  n ← u32
  at ← here
  found ← spanned (more n (thing g) [])
  done (record { count = n; reader = reader_of features at found.0 })
