use Rattle.std.specs.Prelude.{ℕ, List}
use Rattle.wasm_operators.specs.below.declared.features.WasmFeatures.{WasmFeatures}
use Rattle.wasm_operators.specs.below.Source.{Source}

-- These bytes, at offset 0.
abbrev pub input : WasmFeatures → List ℕ → Source
input features bytes = record { features = features; offset = 0; bytes = bytes }
