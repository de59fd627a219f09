-- Operators without immediates.
use Rattle.std.specs.Prelude.{◌≡◌, ℕ, Bool, true, false, []}
use Rattle.wasm_decode_opcodes.specs.Entry.{Entry, free}
use Rattle.wasm_instr_simd.specs.declared.simd.SimdOperator.{SimdOperator}
use Rattle.wasm_instr_simd.specs.Simd.{simd_subopcode, simd_immediates}

-- Whether the entry has no immediates and no guard.
abbrev pub is_without_immediates : Entry → Bool
is_without_immediates (free []) = true
is_without_immediates _ = false

-- The SIMD operator has this subopcode and no immediates.
abbrev pub IsSimdWithoutImmediates : ℕ → SimdOperator → Type 0
IsSimdWithoutImmediates code op = (simd_subopcode op ≡ code) × (simd_immediates op ≡ [])
