-- Immediates of fixed length, and indices.
use Rattle.std.proofs.Common.{◌≡◌, ◌≢◌, ℕ, ◌*◌, ◌<◌, ◌≤◌, ◌^◌, inl, inr, Bool, true, false, List, [], ◌∷◌, ◌++◌, length, refl, sym, ap, ◌∙◌, arith, append-nil}
use Rattle.std.specs.Int.{Width, byte_len, to_le_bytes}
use Rattle.wasm_below.specs.declared.features.WasmFeatures.{WasmFeatures}
use Rattle.wasm_below.specs.Features.{HasFeature, acquire_release_atomics}
use Rattle.wasm_below.specs.Number.{EncodesUnsigned, EncodesFixed}
use Rattle.wasm_below.specs.Source.{IsByte}
use Rattle.wasm_imm.specs.declared.constants.V128.{V128}
use Rattle.wasm_imm.specs.declared.ordering.Ordering.{Ordering}
use Rattle.wasm_imm.specs.declared.ordering.Ordering.TheVariants.{AcqRel, SeqCst}
use Rattle.wasm_imm.specs.Indices.{EncodesIndex}
use Rattle.wasm_imm.specs.MemoryArgument.{ordering_byte}
use Rattle.wasm_imm.specs.Orderings.{EncodesOrderingByte, EncodesFence}
use Rattle.wasm_imm.specs.Vectors.{EncodesSixteen, EncodesVector}
use Rattle.wasm_encode_numbers.specs.Appended.{Appends}
use Rattle.wasm_encode_immediates.specs.declared.unwritable.Unwritable.TheVariants as why
use Rattle.wasm_encode_immediates.specs.Reasons.{HasIndexReason, HasFenceReason}
use Rattle.wasm_encode_immediates.specs.Written.{FailsToWrite}

pub not_false : {b : Bool} → b ≡ true → b ≡ false → ⊥
not_false t f = cc (t, f)

same_length : (text other : List ℕ) → other ≡ text → length text ≤ length other
same_length text other e = let l = ap length e in omega (arith, l)

pub fixed_written : (w : Width) (n : ℕ) (text old new : List ℕ) → n < 2 ^ (8 * byte_len w) → text ≡ to_le_bytes w n → new ≡ old ++ text → Appends (EncodesFixed w) n old new
fixed_written w n text old new lt e a =
    record { text = text; appended = a; encodes = (e, lt); shortest = λ other p. same_length text other (p.0 ∙ sym e) }

pub byte_written : (n : ℕ) (old new : List ℕ) → n < 256 → new ≡ old ++ n ∷ [] → Appends IsByte n old new
byte_written n old new lt a = record { text = n ∷ []; appended = a; encodes = (refl, lt); shortest = λ other p. same_length (n ∷ []) other p.0 }

pub sixteen_written : (bytes old new : List ℕ) → length bytes ≡ 16 → new ≡ old ++ bytes → Appends EncodesSixteen bytes old new
sixteen_written bytes old new l a = record { text = bytes; appended = a; encodes = (refl, l); shortest = λ other p. same_length bytes other p.0 }

pub order_written : (o : Ordering) (old new : List ℕ) → new ≡ old ++ ordering_byte o ∷ [] → Appends EncodesOrderingByte o old new
order_written o old new a = record { text = ordering_byte o ∷ []; appended = a; encodes = refl; shortest = λ other p. same_length (ordering_byte o ∷ []) other p }

pub vector_written : (v : V128) (old new : List ℕ) → length v.0 ≡ 16 → new ≡ old ++ v.0 → Appends EncodesVector v old new
vector_written v old new l a = record { text = v.0; appended = a; encodes = (refl, l); shortest = λ other p. same_length v.0 other p.0 }

-- ---- indices

index_on : (feature f : WasmFeatures) (n : ℕ) (other : List ℕ) → HasFeature feature f → EncodesIndex feature f other n → EncodesUnsigned 32 other n
index_on feature f n other on (inl p) = p.1
index_on feature f n other on (inr p) = absurd (p.0 on)

index_off : (feature f : WasmFeatures) (n : ℕ) (other : List ℕ) → ¬ HasFeature feature f → EncodesIndex feature f other n → (other ≡ 0 ∷ []) × (n ≡ 0)
index_off feature f n other off (inl p) = absurd (off p.0)
index_off feature f n other off (inr p) = (p.1, p.2)

pub index_written : (feature f : WasmFeatures) (n : ℕ) (old new : List ℕ) → HasFeature feature f → Appends (EncodesUnsigned 32) n old new → Appends (EncodesIndex feature f) n old new
index_written feature f n old new on a =
    record { text = a.text; appended = a.appended; encodes = inl (on, a.encodes); shortest = λ other p. a.shortest other (index_on feature f n other on p) }

pub zero_written : (feature f : WasmFeatures) (n : ℕ) (old new : List ℕ) → ¬ HasFeature feature f → n ≡ 0 → new ≡ old ++ 0 ∷ [] → Appends (EncodesIndex feature f) n old new
zero_written feature f n old new off z a =
    record { text = 0 ∷ []; appended = a; encodes = inr (off, refl, z); shortest = λ other p. same_length (0 ∷ []) other (index_off feature f n other off p).0 }

pub index_fails : (feature f : WasmFeatures) (n : ℕ) (old : List ℕ) → ¬ HasFeature feature f → n ≢ 0 → FailsToWrite (EncodesIndex feature f) (HasIndexReason feature f) n (why.NeedsFeature feature) old old
index_fails feature f n old off some =
    record { part = []; appended = sym (append-nil old); none = λ enough text p. some (index_off feature f n text off p).1; reason = (refl, some, off) }

-- ---- fences

fence_on : (f : WasmFeatures) (o : Ordering) (other : List ℕ) → HasFeature acquire_release_atomics f → EncodesFence f other o → other ≡ ordering_byte o ∷ []
fence_on f o other on (inl p) = p.1
fence_on f o other on (inr p) = absurd (p.0 on)

fence_off : (f : WasmFeatures) (o : Ordering) (other : List ℕ) → ¬ HasFeature acquire_release_atomics f → EncodesFence f other o → (other ≡ 0 ∷ []) × (o ≡ SeqCst)
fence_off f o other off (inl p) = absurd (off p.0)
fence_off f o other off (inr p) = (p.1, p.2)

pub fence_written : (f : WasmFeatures) (o : Ordering) (old new : List ℕ) → HasFeature acquire_release_atomics f → new ≡ old ++ ordering_byte o ∷ [] → Appends (EncodesFence f) o old new
fence_written f o old new on a =
    record { text = ordering_byte o ∷ []; appended = a; encodes = inl (on, refl); shortest = λ other p. same_length (ordering_byte o ∷ []) other (fence_on f o other on p) }

pub plain_fence : (f : WasmFeatures) (o : Ordering) (old new : List ℕ) → ¬ HasFeature acquire_release_atomics f → o ≡ SeqCst → new ≡ old ++ 0 ∷ [] → Appends (EncodesFence f) o old new
plain_fence f o old new off is a =
    record { text = 0 ∷ []; appended = a; encodes = inr (off, refl, is); shortest = λ other p. same_length (0 ∷ []) other (fence_off f o other off p).0 }

pub fence_fails : (f : WasmFeatures) (o : Ordering) (old : List ℕ) → ¬ HasFeature acquire_release_atomics f → o ≡ AcqRel → FailsToWrite (EncodesFence f) (HasFenceReason f) o (why.NeedsFeature acquire_release_atomics) old old
fence_fails f o old off is =
    let other : o ≢ SeqCst = λ e. cc (sym is ∙ e) in
    record { part = []; appended = sym (append-nil old); none = λ enough text p. other (fence_off f o text off p).1; reason = (refl, other, off) }
