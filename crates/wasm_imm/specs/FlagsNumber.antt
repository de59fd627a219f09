use Rattle.std.specs.Prelude.{◌≡◌, ℕ, ◌/◌, ◌%◌, ◌≤◌, ◌⊎◌, List, [], ◌∷◌, Option, Some, None}
use Rattle.wasm_below.specs.declared.features.WasmFeatures.{WasmFeatures}
use Rattle.wasm_below.specs.Features.{HasFeature, multi_memory, acquire_release_atomics, multibyte_array_access}
use Rattle.wasm_below.specs.Number.{EncodesUnsigned}
use Rattle.wasm_imm.specs.declared.memory_argument.MemArgTarget.{MemArgTarget}
use Rattle.wasm_imm.specs.declared.memory_argument.MemArgTarget.TheVariants as target
use Rattle.wasm_imm.specs.declared.memory_argument.MemArgOrdering.{MemArgOrdering}
use Rattle.wasm_imm.specs.declared.memory_argument.MemArgKind.{MemArgKind}
use Rattle.wasm_imm.specs.declared.memory_argument.MemArgKind.TheVariants as kind
use Rattle.wasm_imm.specs.MemoryArgument.{IsOrderingByte}

-- The number has this bit, and the feature that gives it a meaning is on.
abbrev pub Announces : WasmFeatures → WasmFeatures → ℕ → ℕ → Type 0
Announces f feature flags bit = HasFeature feature f × (flags / bit % 2 ≡ 1)

-- A bit that has no meaning with these features is set.
abbrev pub IsReserved : WasmFeatures → ℕ → Type 0
IsReserved f flags = (128 ≤ flags) ⊎ ((flags / 64 % 2 ≡ 1) × ¬ HasFeature multi_memory f) ⊎ ((flags / 32 % 2 ≡ 1) × ¬ HasFeature multibyte_array_access f) ⊎ ((flags / 16 % 2 ≡ 1) × ¬ HasFeature acquire_release_atomics f)

-- The number announces an array index, and has the bit of a memory index.
abbrev pub NamesBoth : WasmFeatures → ℕ → Type 0
NamesBoth f flags = Announces f multibyte_array_access flags 32 × (flags / 64 % 2 ≡ 1)

-- The number announces an ordering, but the operator is not atomic.
abbrev pub OrdersPlain : WasmFeatures → MemArgKind → ℕ → Type 0
OrdersPlain f k flags = (k ≡ kind.Plain) × Announces f acquire_release_atomics flags 16

-- The target: the announced memory index, else the announced array index, else memory 0.
abbrev pub IsTarget : WasmFeatures → ℕ → List ℕ → MemArgTarget → Type 0
IsTarget f flags text (target.Array i) = ¬ Announces f multi_memory flags 64 × Announces f multibyte_array_access flags 32 × EncodesUnsigned 32 text i
IsTarget f flags text (target.Memory i) = (Announces f multi_memory flags 64 × EncodesUnsigned 32 text i) ⊎ (¬ Announces f multi_memory flags 64 × ¬ Announces f multibyte_array_access flags 32 × (text ≡ []) × (i ≡ 0))

abbrev pub IsOrdering : WasmFeatures → MemArgKind → ℕ → List ℕ → Option MemArgOrdering → Type 0
IsOrdering f k flags text None = ¬ Announces f acquire_release_atomics flags 16 × (text ≡ [])
IsOrdering f k flags text (Some o) = Announces f acquire_release_atomics flags 16 × (byte : ℕ) × (text ≡ byte ∷ []) × IsOrderingByte k byte o
