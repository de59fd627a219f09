use Rattle.std.proofs.Common.{◌≡◌, ℕ, zero, suc, ◌≤◌, ◌<◌, ◌/◌, ◌%◌, Bool, true, false, List, [], ◌∷◌, ◌++◌, length, inl, inr, refl, sym, subst, ap, ◌∙◌, arith}
use Rattle.std.specs.Prelude.{◌==◌}
use Rattle.wasm_below.specs.Ahead.{Fails}
use Rattle.wasm_below.specs.declared.error.Error.{Error}
use Rattle.wasm_below.specs.declared.message.Message.TheVariants as message
use Rattle.wasm_below.specs.Refusal.{IsReadFault}
use Rattle.wasm_below.specs.Number.{EncodesUnsigned}
use Rattle.wasm_below.specs.Reference.{Reference}
use Rattle.wasm_below.specs.Sequence.{Then, PrefixCode}
use Rattle.wasm_below.specs.Source.{Reader, offset_of, HasRead, IsByte, EndFault, U32Fault}
use Rattle.wasm_below.proofs.Sequences.{then_first, then_second, then_prefix_code, refuses_by}
use Rattle.wasm_below.proofs.TakesLemmas.{takes_then}
use Rattle.wasm_below.proofs.TypePrefixCodes.{heap_prefix_code, same_reference}
use Rattle.wasm_imm.specs.declared.cast.Cast.{Cast}
use Rattle.wasm_below.specs.Fault.{ThenFault}
use Rattle.wasm_below.specs.TypeEncoding.{HeapTypeFault}
use Rattle.wasm_below.proofs.Blocks.{refused_now}
use Rattle.wasm_imm.proofs.Faults.{no_heap_type, heap_type_read}
use Rattle.wasm_imm.specs.CastFaults.{CastTypesFault, CastFault}
use Rattle.wasm_imm.specs.Casts.{cast_flags, EncodesCast, EncodesReference}
use Rattle.wasm_below.proofs.PrefixCode.{byte_prefix_code}
use Rattle.wasm_below.proofs.Steps.{number_prefix_code, first_rules_out}

pub reference_prefix_code : (nullable : Bool) → PrefixCode (EncodesReference nullable)
reference_prefix_code nullable a b x y r s p q e = let o = heap_prefix_code a b x y r.heap_type s.heap_type p.1 q.1 e in
    (o.0, same_reference r s (p.0 ∙ sym q.0) o.1)

abbrev pub first_null : ℕ → Bool
first_null flags = flags % 2 == 1

abbrev second_null : ℕ → Bool
second_null flags = flags / 2 == 1

first_of_flags : (a b : Bool) → first_null (cast_flags a b) ≡ a
first_of_flags false false = refl
first_of_flags true false = refl
first_of_flags false true = refl
first_of_flags true true = refl

second_of_flags : (a b : Bool) → second_null (cast_flags a b) ≡ b
second_of_flags false false = refl
second_of_flags true false = refl
second_of_flags false true = refl
second_of_flags true true = refl

at_most_3 : (a b : Bool) → cast_flags a b ≤ 3
at_most_3 false false = omega arith
at_most_3 true false = omega arith
at_most_3 false true = omega arith
at_most_3 true true = omega arith

flags_restored : (flags : ℕ) → flags ≤ 3 → cast_flags (first_null flags) (second_null flags) ≡ flags
flags_restored zero le = refl
flags_restored (suc zero) le = refl
flags_restored (suc (suc zero)) le = refl
flags_restored (suc (suc (suc zero))) le = refl
flags_restored (suc (suc (suc (suc n)))) le = absurd (omega arith)

abbrev pub cast_of : ℕ → Reference → Reference → Cast
cast_of depth from to = record { relative_depth = depth; from = from; to = to }

abbrev pub Third : ℕ → ℕ → Reference → List ℕ → Cast → Type 0
Third flags depth from text c = EncodesReference (second_null flags) text c.to × (c ≡ cast_of depth from c.to)

abbrev pub Second : ℕ → ℕ → List ℕ → Cast → Type 0
Second flags depth = Then (EncodesReference (first_null flags)) (Third flags depth)

abbrev pub First : ℕ → List ℕ → Cast → Type 0
First flags text c = (flags ≤ 3) × Then (EncodesUnsigned 32) (Second flags) text c

abbrev pub Parts : List ℕ → Cast → Type 0
Parts = Then IsByte First

to_parts : (text : List ℕ) (c : Cast) → EncodesCast text c → Parts text c
to_parts text c (label, first, second, e, pl, pf, ps) =
    let n = cast_flags c.from.nullable c.to.nullable in
    let le = at_most_3 c.from.nullable c.to.nullable in (
      n ∷ [],
      label ++ (first ++ second),
      n,
      e,
      (refl, omega (arith, le)),
      (
        le,
        (
          label,
          first ++ second,
          c.relative_depth,
          refl,
          pl,
          (
            first,
            second,
            c.from,
            refl,
            (sym (first_of_flags c.from.nullable c.to.nullable), pf),
            ((sym (second_of_flags c.from.nullable c.to.nullable), ps), refl),
          ),
        ),
      ),
    )

third_prefix_code : (flags depth : ℕ) (from : Reference) → PrefixCode (Third flags depth from)
third_prefix_code flags depth from a b x y c d p q e =
    let o = reference_prefix_code (second_null flags) a b x y c.to d.to p.0 q.0 e in
    (o.0, p.1 ∙ ap (cast_of depth from) o.1 ∙ sym q.1)

pub cast_prefix_code : PrefixCode EncodesCast
cast_prefix_code a b x y c d p q e = parts a b x y c d (to_parts a c p) (to_parts b d q) e
  where
    first : (flags : ℕ) → PrefixCode (First flags)
    first flags a b x y c d p q e = then_prefix_code (EncodesUnsigned 32) (Second flags) (number_prefix_code 32)
        (λ depth. then_prefix_code (EncodesReference (first_null flags)) (Third flags depth) (reference_prefix_code (first_null flags))
        (third_prefix_code flags depth)) a b x y c d p.1 q.1 e

    parts : PrefixCode Parts
    parts = then_prefix_code IsByte First byte_prefix_code first

pub flags_fail : {e : Error} {old : Reader} → Fails IsByte EndFault e old → Fails EncodesCast CastFault e old
flags_fail {e} {old} (h, f) =
    (refuses_by Parts EncodesCast e old (λ text c s. (c, to_parts text c s)) (then_first IsByte First e old h), inl (refused_now IsByte e old h, f))

module _ (old mid : Reader) (flags : ℕ) (flagged : HasRead IsByte flags old mid) where
  pub flags_over : 3 < flags → (now : Reader) (depth : ℕ) → HasRead (EncodesUnsigned 32) depth mid now → {e : Error} →
      e.message ≡ message.InvalidCastFlags flags → e.offset ≡ offset_of old → Fails EncodesCast CastFault e old
  flags_over over now depth rd {e} is at =
      let none : (text : List ℕ) (c : Cast) → First flags text c → ⊥ = λ text c s. let low = s.0 in omega (arith, low, over) in
      let some : (text : List ℕ) → IsByte text flags → 0 < length text = λ text p. let one : length text ≡ 1 = ap length p.0 in omega (arith, one) in
      let read_fault = subst IsReadFault (sym is) tt in
      let h = first_rules_out IsByte First e old mid old flags byte_prefix_code some flagged none refl at read_fault in
      (refuses_by Parts EncodesCast e old (λ text c s. (c, to_parts text c s)) h.1, inr (flags, mid, flagged, inr (depth, now, rd, inl (over, is, at))))

  parts_fail : {e : Error} → Fails (Then (EncodesUnsigned 32) (Second flags)) (ThenFault (EncodesUnsigned 32) U32Fault (λ label. CastTypesFault (offset_of old) flags)) e mid →
      Fails EncodesCast CastFault e old
  parts_fail {e} (h, fault) = (
    refuses_by Parts EncodesCast e old (λ text c s. (
      c,
      to_parts text c s,
    )) (then_second IsByte First e old mid flags byte_prefix_code flagged
        (refuses_by (Then (EncodesUnsigned 32) (Second flags)) (First flags) e mid (λ text c s. (c, s.1)) h)),
    inr (flags, mid, flagged, fault),
  )

  pub label_fails : {e : Error} → Fails (EncodesUnsigned 32) U32Fault e mid → Fails EncodesCast CastFault e old
  label_fails {e} (h, f) = parts_fail (then_first (EncodesUnsigned 32) (Second flags) e mid h, inl (refused_now (EncodesUnsigned 32) e mid h, f))

  pub from_fails : (now : Reader) (depth : ℕ) → flags ≤ 3 → HasRead (EncodesUnsigned 32) depth mid now → {e : Error} →
      Fails (EncodesReference (first_null flags)) HeapTypeFault e now → Fails EncodesCast CastFault e old
  from_fails now depth low rd {e} (h, f) =
      parts_fail (
        then_second (EncodesUnsigned 32) (Second flags) e mid now depth (number_prefix_code 32) rd
            (then_first (EncodesReference (first_null flags)) (Third flags depth) e now h),
        inr (depth, now, rd, inr (low, inl (no_heap_type (first_null flags) e now h, f))),
      )

  pub to_fails : (now last : Reader) (depth : ℕ) (from : Reference) → flags ≤ 3 → HasRead (EncodesUnsigned 32) depth mid now →
      HasRead (EncodesReference (first_null flags)) from now last → {e : Error} → Fails (EncodesReference (second_null flags)) HeapTypeFault e last →
      Fails EncodesCast CastFault e old
  to_fails now last depth from low rd rf {e} (h, f) =
      let third = refuses_by (EncodesReference (second_null flags)) (Third flags depth from) e last (λ text c s. (c.to, s.0)) h in
      parts_fail (
        then_second (EncodesUnsigned 32) (Second flags) e mid now depth (number_prefix_code 32) rd
            (then_second (EncodesReference (first_null flags)) (Third flags depth) e now last from (reference_prefix_code (first_null flags)) rf third),
        inr (depth, now, rd, inr (low, inr (from.heap_type, last, heap_type_read (first_null flags) from now last rf, f))),
      )

  pub cast_read : (now last new : Reader) (depth : ℕ) (from to : Reference) → flags ≤ 3 → HasRead (EncodesUnsigned 32) depth mid now →
      HasRead (EncodesReference (first_null flags)) from now last → HasRead (EncodesReference (second_null flags)) to last new →
      HasRead EncodesCast (cast_of depth from to) old new
  cast_read now last new depth from to le rd rf rt =
      let byte : cast_flags from.nullable to.nullable ≡ flags = ap (λ z. cast_flags z to.nullable) rf.1.0 ∙ ap (cast_flags (first_null flags)) rt.1.0 ∙
      flags_restored flags le in (
        flagged.0 ++ (rd.0 ++ (rf.0 ++ rt.0)),
        (rd.0, rf.0, rt.0, ap (λ z. z ++ (rd.0 ++ (rf.0 ++ rt.0))) flagged.1.0 ∙ ap (λ z. z ∷ (rd.0 ++ (rf.0 ++ rt.0))) (sym byte), rd.1, rf.1.1, rt.1.1),
        takes_then old mid new flagged.0 (rd.0 ++ (rf.0 ++ rt.0)) flagged.2
            (takes_then mid now new rd.0 (rf.0 ++ rt.0) rd.2 (takes_then now last new rf.0 rt.0 rf.2 rt.2)),
      )
