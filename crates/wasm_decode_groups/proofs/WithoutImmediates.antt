-- SIMD operators without immediates, and those with immediates.
use Rattle.std.proofs.Common.{◌≡◌, ℕ, ◌<◌, ◌≤◌, true, false, [], ◌∷◌, Some, refl, arith}
use Rattle.wasm_decode_opcodes.specs.Entry.{Entry, unknown, prefixes, free, guarded}
use Rattle.wasm_decode_opcodes.specs.Entries.{entry_at}
use Rattle.wasm_decode_groups.specs.WithoutImmediates.{is_without_immediates}
use Rattle.wasm_decode_groups.proofs.Ranges.{InRanges, is_known, is_other}
use Rattle.wasm_decode_groups.proofs.Codes.{simd_others, simd_low_known, simd_other_codes}

pub without : (e : Entry) → is_without_immediates e ≡ true → e ≡ free []
without unknown h = absurd (cc h)
without prefixes h = absurd (cc h)
without (free []) h = refl
without (free (k ∷ ks)) h = absurd (cc h)
without (guarded g ks) h = absurd (cc h)

bare_of : (e : Entry) → is_known e ≡ true → (is_other e ≡ true → ⊥) → e ≡ free []
bare_of unknown k never = absurd (cc k)
bare_of prefixes k never = absurd (never refl)
bare_of (free []) k never = refl
bare_of (free (x ∷ xs)) k never = absurd (never refl)
bare_of (guarded g ks) k never = absurd (never refl)

unknown_of : (e : Entry) → is_without_immediates e ≡ false → (is_other e ≡ true → ⊥) → e ≡ unknown
unknown_of unknown h never = refl
unknown_of prefixes h never = absurd (never refl)
unknown_of (free []) h never = absurd (cc h)
unknown_of (free (x ∷ xs)) h never = absurd (never refl)
unknown_of (guarded g ks) h never = absurd (never refl)

-- Below 0x80 the SIMD operators outside of these ranges have no immediates.
pub outside : (code : ℕ) → code < 0x80 → (InRanges code simd_other_codes → ⊥) → entry_at (Some 0xfd) code ≡ free []
outside code low never = bare_of (entry_at (Some 0xfd) code) (simd_low_known code low) (λ other. never (simd_others code other))

-- From 0x80 on no operator has another subopcode.
pub no_operator : (code : ℕ) → 0x80 ≤ code → is_without_immediates (entry_at (Some 0xfd) code) ≡ false → entry_at (Some 0xfd) code ≡ unknown
no_operator code high h = unknown_of (entry_at (Some 0xfd) code) h (λ other. let r = simd_others code other in grind (arith, r))
