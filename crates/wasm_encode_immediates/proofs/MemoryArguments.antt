-- What is written of a memory argument is its shortest encoding. If writing fails, no encoding exists.
use Rattle.std.proofs.Common.{◌≡◌, ◌≢◌, ℕ, zero, suc, ◌+◌, ◌<◌, ◌≤◌, ◌^◌, ◌==◌, ◌⊎◌, inl, inr, Bool, true, false, List, [], ◌∷◌, ◌++◌, length, Option, Some, None, cond, refl, sym, ap, subst, ◌∙◌, arith, length-append, append-nil}
use Rattle.std.proofs.lemmas.Bool.{ne_eqb}
use Rattle.std.specs.Int.RustNames.{bit_and}
use Rattle.wasm_below.specs.declared.features.WasmFeatures.{WasmFeatures}
use Rattle.wasm_below.specs.Features.{HasFeature, multi_memory, memory64, acquire_release_atomics, multibyte_array_access}
use Rattle.wasm_below.specs.Number.{EncodesUnsigned}
use Rattle.wasm_encode_numbers.specs.Shortest.{unsigned_bytes}
use Rattle.wasm_imm.specs.declared.memory_argument.MemArg.{MemArg}
use Rattle.wasm_imm.specs.declared.memory_argument.MemArgTarget.{MemArgTarget}
use Rattle.wasm_imm.specs.declared.memory_argument.MemArgTarget.TheVariants as target
use Rattle.wasm_imm.specs.declared.memory_argument.MemArgOrdering.{MemArgOrdering}
use Rattle.wasm_imm.specs.declared.memory_argument.MemArgOrdering.TheVariants as ordering
use Rattle.wasm_imm.specs.declared.memory_argument.MemArgKind.{MemArgKind}
use Rattle.wasm_encode_immediates.specs.declared.unwritable.Unwritable.{Unwritable}
use Rattle.wasm_encode_immediates.specs.declared.unwritable.Unwritable.TheVariants as why
use Rattle.wasm_imm.specs.MemoryArgument.{EncodesTarget, EncodesOrdering, EncodesOffset, EncodesMemArg, ordering_byte, rmw_byte}
use Rattle.wasm_encode_numbers.proofs.Written.{unsigned_encodes, unsigned_shortest}
use Rattle.wasm_below.proofs.Numbers.{unsigned_below}
use Rattle.wasm_encode_numbers.specs.Appended.{Appends}
use Rattle.wasm_encode_immediates.specs.Written.{FailsToWrite}
use Rattle.wasm_encode_immediates.specs.MemoryBytes.{target_part, target_bytes, ordering_part, ordering_bytes, memory_argument_bytes, IsTargetWritable, IsOrderingWritable, IsWritable}
use Rattle.wasm_encode_immediates.specs.Reasons.{IsOfKind, HasMemoryReason}

decide : {P : Type 0} (b : Bool) → (b ≡ true → P) → (¬ (b ≡ true) → P) → P
decide true f g = f refl
decide false f g = g (λ e. cc e)

some_part : (i : ℕ) → target_part (target.Memory (suc i)) ≡ 64
some_part i = ap (λ b. cond b 0 64) (ne_eqb (suc i) 0 (λ e. cc e))

some_bytes : (i : ℕ) → target_bytes (target.Memory (suc i)) ≡ unsigned_bytes (suc i)
some_bytes i = ap (λ b. cond b [] (unsigned_bytes (suc i))) (ne_eqb (suc i) 0 (λ e. cc e))

-- ---- encodings

target_encodes : (f : WasmFeatures) (t : MemArgTarget) → IsTargetWritable f t → EncodesTarget f (target_part t) (target_bytes t) t
target_encodes f (target.Array i) w = (w.1, refl, unsigned_encodes 32 i (omega arith) w.0)
target_encodes f (target.Memory zero) w = inr (refl, refl, refl)
target_encodes f (target.Memory (suc i)) w =
    elim w.1 [
      | inl z ↦ absurd (cc z)
      | inr h ↦ inl (h, some_part i, subst (λ text. EncodesUnsigned 32 text (suc i)) (sym (some_bytes i)) (unsigned_encodes 32 (suc i) (omega arith) w.0))
    ]

ordering_encodes : (f : WasmFeatures) (k : MemArgKind) (o : Option MemArgOrdering) → IsOrderingWritable f k o → EncodesOrdering f k (ordering_part o) (ordering_bytes o) o
ordering_encodes f k None w = (refl, refl)
ordering_encodes f k (Some (ordering.Op o)) w = (w.0, refl, ordering_byte o, refl, (w.1, refl))
ordering_encodes f k (Some (ordering.Rmw o)) w = (w.0, refl, rmw_byte o, refl, (w.1, refl))

offset_encodes : (f : WasmFeatures) (n : ℕ) → n < 2 ^ 64 → (n < 2 ^ 32) ⊎ HasFeature memory64 f → EncodesOffset f (unsigned_bytes n) n
offset_encodes f n small w =
    decide (bit_and f.0 memory64.0 == memory64.0) (λ h. inl (h, unsigned_encodes 64 n (omega arith) small))
    (λ off. elim w [
      | inl lt ↦ inr (off, unsigned_encodes 32 n (omega arith) lt)
      | inr h ↦ absurd (off h)
    ])

target_small : (t : MemArgTarget) → target_part t ≤ 64
target_small (target.Array i) = omega arith
target_small (target.Memory zero) = omega arith
target_small (target.Memory (suc i)) = let e = some_part i in omega (arith, e)

ordering_small : (o : Option MemArgOrdering) → ordering_part o ≤ 16
ordering_small None = omega arith
ordering_small (Some o) = omega arith

pub memarg_encodes : (f : WasmFeatures) (k : MemArgKind) (max : ℕ) (m : MemArg) → IsWritable f k max m → EncodesMemArg f k max (memory_argument_bytes m) m
memarg_encodes f k max m w =
    let flags = m.align + ordering_part m.ordering + target_part m.target in
    let t = target_small m.target in
    let o = ordering_small m.ordering in
    let a = w.align in (
      flags ∷ [],
      target_bytes m.target ++ (ordering_bytes m.ordering ++ unsigned_bytes m.offset),
      flags,
      refl,
      (omega (arith, t, o, a), refl, omega (arith, t, o, a)),
      record {
        of_ordering = ordering_part m.ordering;
        of_target = target_part m.target;
        index = target_bytes m.target;
        byte = ordering_bytes m.ordering;
        after = unsigned_bytes m.offset;
        sum = refl;
        parts = refl;
        align = w.align;
        max_align = w.natural;
        target = target_encodes f m.target w.target;
        ordering = ordering_encodes f k m.ordering w.ordering;
        offset = offset_encodes f m.offset w.small w.offset;
      },
    )

-- ---- none is shorter

some_byte : (width n : ℕ) (text : List ℕ) → EncodesUnsigned width text n → 1 ≤ length text
some_byte width n [] p = absurd p
some_byte width n (c ∷ text) p = omega arith

target_shortest : (f : WasmFeatures) (t : MemArgTarget) (part : ℕ) (text : List ℕ) → EncodesTarget f part text t → length (target_bytes t) ≤ length text
target_shortest f (target.Array i) part text p = unsigned_shortest i 32 text p.2
target_shortest f (target.Memory zero) part text p = omega arith
target_shortest f (target.Memory (suc i)) part text (inl p) = subst (λ bytes. length bytes ≤ length text) (sym (some_bytes i)) (unsigned_shortest (suc i) 32 text p.2)
target_shortest f (target.Memory (suc i)) part text (inr p) = absurd (cc p.2)

ordering_shortest : (f : WasmFeatures) (k : MemArgKind) (o : Option MemArgOrdering) (part : ℕ) (text : List ℕ) → EncodesOrdering f k part text o →
    length (ordering_bytes o) ≤ length text
ordering_shortest f k None part text p = omega arith
ordering_shortest f k (Some (ordering.Op o)) part text (h, e, byte, is, (p, b)) = let l = ap length is in omega (arith, l)
ordering_shortest f k (Some (ordering.Rmw o)) part text (h, e, byte, is, (p, b)) = let l = ap length is in omega (arith, l)

offset_shortest : (f : WasmFeatures) (n : ℕ) (text : List ℕ) → EncodesOffset f text n → length (unsigned_bytes n) ≤ length text
offset_shortest f n text (inl p) = unsigned_shortest n 64 text p.1
offset_shortest f n text (inr p) = unsigned_shortest n 32 text p.1

pub memarg_shortest : (f : WasmFeatures) (k : MemArgKind) (max : ℕ) (m : MemArg) (other : List ℕ) → EncodesMemArg f k max other m →
    length (memory_argument_bytes m) ≤ length other
memarg_shortest f k max m other (first, rest, flags, e, number, p) =
    let one = some_byte 32 flags first number in
    let t = target_shortest f m.target p.of_target p.index p.target in
    let o = ordering_shortest f k m.ordering p.of_ordering p.byte p.ordering in
    let n = offset_shortest f m.offset p.after p.offset in
    let l1 = ap length e ∙ length-append first rest in
    let l2 = ap length p.parts ∙ length-append p.index (p.byte ++ p.after) in
    let l3 = length-append p.byte p.after in
    let l4 = length-append (target_bytes m.target) (ordering_bytes m.ordering ++ unsigned_bytes m.offset) in
    let l5 = length-append (ordering_bytes m.ordering) (unsigned_bytes m.offset) in
    omega (arith, one, t, o, n, l1, l2, l3, l4, l5)

-- ---- a reason excludes encodings

target_asks : (f : WasmFeatures) (t : MemArgTarget) (part i : ℕ) (text : List ℕ) → EncodesTarget f part text t → t ≡ target.Memory i → i ≢ 0 → HasFeature multi_memory f
target_asks f (target.Array j) part i text p e some = absurd (cc e)
target_asks f (target.Memory j) part i text (inl p) e some = p.0
target_asks f (target.Memory j) part i text (inr p) e some = let same : j ≡ i = cc e in absurd (some (sym same ∙ p.2))

array_asks : (f : WasmFeatures) (t : MemArgTarget) (part i : ℕ) (text : List ℕ) → EncodesTarget f part text t → t ≡ target.Array i → HasFeature multibyte_array_access f
array_asks f (target.Array j) part i text p e = p.0
array_asks f (target.Memory j) part i text p e = absurd (cc e)

ordering_asks : (f : WasmFeatures) (k : MemArgKind) (o : Option MemArgOrdering) (part : ℕ) (text : List ℕ) (x : MemArgOrdering) → EncodesOrdering f k part text o →
    o ≡ Some x → HasFeature acquire_release_atomics f × IsOfKind k x
ordering_asks f k None part text x p e = absurd (cc e)
ordering_asks f k (Some (ordering.Op o)) part text x (h, s, byte, is, (kk, b)) e =
    let same : ordering.Op o ≡ x = cc e in (h, subst (IsOfKind k) same kk)
ordering_asks f k (Some (ordering.Rmw o)) part text x (h, s, byte, is, (kk, b)) e =
    let same : ordering.Rmw o ≡ x = cc e in (h, subst (IsOfKind k) same kk)

offset_asks : (f : WasmFeatures) (n : ℕ) (text : List ℕ) → EncodesOffset f text n →
    2 ^ 32 ≤ n → HasFeature memory64 f
offset_asks f n text (inl p) le = p.0
offset_asks f n text (inr p) le = let lt = unsigned_below text 32 n p.1 in absurd (omega (arith, lt))

pub reason_has_none : (f : WasmFeatures) (k : MemArgKind) (max : ℕ) (m : MemArg) (e : Unwritable)
    (other : List ℕ) → HasMemoryReason f k max m e → ¬ EncodesMemArg f k max other m
reason_has_none f k max m why.Alignment other r (first, rest, flags, e, number, p) = let a = p.align in omega (arith, a)
reason_has_none f k max m why.NaturalAlignment other r (first, rest, flags, e, number, p) = r p.max_align
reason_has_none f k max m why.TypeIndex other r p = r
reason_has_none f k max m why.TooMany other r p = r
reason_has_none f k max m why.SingleType other r p = r
reason_has_none f k max m why.OutOfMemory other r p = r
reason_has_none f k max m why.WrongOrdering other (o, is, not) (first, rest, flags, e, number, p) =
    not (ordering_asks f k m.ordering p.of_ordering p.byte o p.ordering is).1
reason_has_none f k max m (why.NeedsFeature g) other (off, inl (i, is, some, g_is)) (first, rest, flags, e, number, p) =
    off (subst (λ h. HasFeature h f) (sym g_is) (target_asks f m.target p.of_target i p.index p.target is some))
reason_has_none f k max m (why.NeedsFeature g) other (off, inr (inl (i, is, g_is))) (first, rest, flags, e, number, p) =
    off (subst (λ h. HasFeature h f) (sym g_is) (array_asks f m.target p.of_target i p.index p.target is))
reason_has_none f k max m (why.NeedsFeature g) other (off, inr (inr (inl (o, is, g_is)))) (first, rest, flags, e, number, p) =
    off (subst (λ h. HasFeature h f) (sym g_is) (ordering_asks f k m.ordering p.of_ordering p.byte o p.ordering is).0)
reason_has_none f k max m (why.NeedsFeature g) other (off, inr (inr (inr (le, g_is)))) (first, rest, flags, e, number, p) =
    off (subst (λ h. HasFeature h f) (sym g_is) (offset_asks f m.offset p.after p.offset le))

-- ---- what was written

pub argument_written : (f : WasmFeatures) (k : MemArgKind) (max : ℕ) (m : MemArg) (old new : List ℕ) → IsWritable f k max m → new ≡ old ++ memory_argument_bytes m →
    Appends (EncodesMemArg f k max) m old new
argument_written f k max m old new w e =
    record { text = memory_argument_bytes m; appended = e; encodes = memarg_encodes f k max m w; shortest = memarg_shortest f k max m }

pub argument_fails : (f : WasmFeatures) (k : MemArgKind) (max : ℕ) (m : MemArg) (e : Unwritable) (old : List ℕ) → HasMemoryReason f k max m e →
    FailsToWrite (EncodesMemArg f k max) (HasMemoryReason f k max) m e old old
argument_fails f k max m e old r =
    record { part = []; appended = sym (append-nil old); none = λ enough text p. reason_has_none f k max m e text r p; reason = r }
