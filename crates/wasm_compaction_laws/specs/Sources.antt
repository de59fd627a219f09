use Rattle.std.specs.Prelude.{ℕ, List}
use Rattle.wasm_below.specs.declared.features.WasmFeatures.{WasmFeatures}
use Rattle.wasm_below.specs.Source.{Source}

-- These bytes with these features. The first byte has this offset.
abbrev pub source_from : WasmFeatures → ℕ → List ℕ → Source
source_from f offset bytes = record { features = f; offset = offset; bytes = bytes }
