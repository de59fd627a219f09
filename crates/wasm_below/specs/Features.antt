use Rattle.std.specs.Prelude.{ℕ, ◌==◌, IsTrue}
use Rattle.std.specs.Int.RustNames.{bit_and}
use Rattle.wasm_below.specs.declared.features.WasmFeatures.{WasmFeatures}

-- The features with these bits.
abbrev pub features_of : ℕ → WasmFeatures
features_of bits = record { 0 = bits }

-- All six features, bits 0 to 5.
abbrev pub all_features : WasmFeatures
all_features = features_of 63

abbrev pub multi_memory : WasmFeatures
multi_memory = features_of 1

abbrev pub memory64 : WasmFeatures
memory64 = features_of 2

abbrev pub call_indirect_overlong : WasmFeatures
call_indirect_overlong = features_of 4

abbrev pub legacy_exceptions : WasmFeatures
legacy_exceptions = features_of 8

abbrev pub acquire_release_atomics : WasmFeatures
acquire_release_atomics = features_of 16

abbrev pub multibyte_array_access : WasmFeatures
multibyte_array_access = features_of 32

-- Every bit of the first set is in the second.
abbrev pub HasFeature : WasmFeatures → WasmFeatures → Type 0
HasFeature feature features = IsTrue (bit_and features.0 feature.0 == feature.0)
