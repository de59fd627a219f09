-- Immediates of given kinds.
use Rattle.std.specs.Prelude.{◌≡◌, ℕ, List, map}
use Rattle.wasm_below.specs.declared.features.WasmFeatures.{WasmFeatures}
use Rattle.wasm_imm.specs.Immediate.{Immediate, Kind, kind_of, EncodesImmediate, EncodesImmediates}

-- The bytes `text` encode the immediate `i`, whose kind is `k`.
abbrev pub EncodesKind : WasmFeatures → Kind → List ℕ → Immediate → Type 0
EncodesKind f k text i = (kind_of i ≡ k) × EncodesImmediate f text i

-- The bytes `text` encode the immediates `is` in order, whose kinds are `ks`.
abbrev pub EncodesKinds : WasmFeatures → List Kind → List ℕ → List Immediate → Type 0
EncodesKinds f ks text is = (map kind_of is ≡ ks) × EncodesImmediates f text is
