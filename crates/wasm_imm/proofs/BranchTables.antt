use Rattle.std.proofs.Common.{◌≡◌, ℕ, suc, ◌+◌, ◌-◌, ◌*◌, ◌<◌, ◌≤◌, List, [], ◌∷◌, ◌++◌, length, inl, inr, refl, sym, subst, ap, ◌∙◌, append_assoc, arith, true}
use Rattle.std.specs.Prelude.{map, take, Result, Ok, Err, nat_eq}
use Rattle.std.proofs.Math.Seq.{take-append_seam}
use Rattle.wasm_below.specs.Ahead.{Fails}
use Rattle.wasm_below.specs.declared.error.Error.{Error}
use Rattle.wasm_below.specs.Number.{EncodesUnsigned, EncodesSize}
use Rattle.wasm_below.specs.Source.{Reader, rest, Takes, HasRead, Reads, U32Fault, CountFault}
use Rattle.wasm_below.specs.Sequence.{Then, PrefixCode}
use Rattle.wasm_below.proofs.PrefixCode.{unsigned_prefix_code, size_prefix_code}
use Rattle.wasm_below.proofs.TakesLemmas.{takes_then, same_rest}
use Rattle.wasm_below.proofs.Blocks.{refused_now}
use Rattle.wasm_below.proofs.Sequences.{then_first, then_second, refuses_by}
use Rattle.wasm_below.specs.declared.message.SizeName.TheVariants as size_name
use Rattle.wasm_below.specs.Fault.{ManyFault}
use Rattle.wasm_imm.specs.BranchTableFaults.{BranchTableFault}
use Rattle.wasm_imm.proofs.Faults.{many_fault, many_wider}
use Rattle.wasm_imm.specs.Lists.{EncodesEach, EncodesMany}
use Rattle.wasm_imm.specs.BranchTables.{BranchTable, AreTargets, EncodesTargets, max_targets, EncodesBranchTable, before_number, with_byte, numbers_of}
use Rattle.std.proofs.lemmas.Bool.{eqb-true, le-ltb, lt-ltb}
use Rattle.std.specs.Cmp.{first_so, second_so}
use Rattle.std.specs.Cmp.Lexicographic.{same_text}
use Rattle.wasm_imm.specs.BranchTableEquality.{same_table}
use Rattle.wasm_below.proofs.Steps.{number_prefix_code}
use Rattle.wasm_imm.proofs.ListLemmas.{many_prefix_code, many_refused}

with_last : (byte : ℕ) (numbers : List ℕ) → byte < 128 → with_byte byte numbers ≡ byte ∷ numbers
with_last byte [] lt = refl
with_last byte (n ∷ numbers) lt = ap (λ t. before_number t byte n numbers) (lt-ltb byte 128 lt)

with_more : (byte n : ℕ) (numbers : List ℕ) → 128 ≤ byte → with_byte byte (n ∷ numbers) ≡ (128 * n + (byte - 128)) ∷ numbers
with_more byte n numbers le = ap (λ t. before_number t byte n numbers) (le-ltb byte 128 le)

pub first_number : (width : ℕ) (text after : List ℕ) (n : ℕ) → EncodesUnsigned width text n → numbers_of (text ++ after) ≡ n ∷ numbers_of after
first_number width [] after n p = absurd p
first_number width (c ∷ []) after n p = with_last c (numbers_of after) p.0 ∙ ap (λ z. z ∷ numbers_of after) (sym p.1)
first_number width (c ∷ d ∷ text) after n (w, le, lt, high, sum, p) =
    let below = first_number (width - 7) (d ∷ text) after high p in
    let value : 128 * high + (c - 128) ≡ n = omega arith in
    ap (with_byte c) below ∙ with_more c high (numbers_of after) le ∙ ap (λ z. z ∷ numbers_of after) value

pub numbers_are : (text : List ℕ) (numbers : List ℕ) → EncodesEach (EncodesUnsigned 32) text numbers → numbers_of text ≡ numbers
numbers_are text [] p = ap numbers_of p
numbers_are text (n ∷ numbers) (first, after, e, p, ps) =
    ap numbers_of e ∙ first_number 32 first after n p ∙ ap (λ z. n ∷ z) (numbers_are after numbers ps)

pub targets_encoded : (count : ℕ) (bytes : List ℕ) → AreTargets count bytes → EncodesMany (EncodesUnsigned 32) count bytes (numbers_of bytes)
targets_encoded count bytes (numbers, h) = subst (EncodesMany (EncodesUnsigned 32) count bytes) (sym (numbers_are bytes numbers h.1)) h

pub next_target : (old new : Reader) (result : Result ℕ Error) (count : ℕ) → Reads (EncodesUnsigned 32) U32Fault result old new → AreTargets count (rest old) →
    0 < count → AreTargets (count - 1) (rest new) × (map Ok (numbers_of (rest old)) ≡ result ∷ map Ok (numbers_of (rest new))) ×
    (length (numbers_of (rest old)) ≡ suc (length (numbers_of (rest new))))
next_target old new (Ok n) count (text, p, takes) ([], (l, e)) some = absurd (omega (arith, l))
next_target old new (Ok n) count (text, p, takes) (m ∷ ms, (l, (first, after, e, q, qs))) some =
    let o = unsigned_prefix_code text first 32 (rest new) after n m p q (sym takes.parts ∙ e) in
    let left : rest new ≡ after = same_rest text first (rest new) after o.0 (sym takes.parts ∙ e) in
    let prefix : numbers_of (rest old) ≡ n ∷ numbers_of (rest new) = ap numbers_of takes.parts ∙ first_number 32 text (rest new) n p in (
      (ms, (omega (arith, l), subst (λ z. EncodesEach (EncodesUnsigned 32) z ms) (sym left) qs)),
      ap (map Ok) prefix,
      ap length prefix,
    )
next_target old new (Err e) count h ([], (l, nil)) some = absurd (omega (arith, l))
next_target old new (Err e) count h (m ∷ ms, (l, (first, after, eq, q, qs))) some = absurd (refused_now (EncodesUnsigned 32) e old h.1 first after m q eq)

pub as_many : (count : ℕ) (bytes : List ℕ) → AreTargets count bytes → length (numbers_of bytes) ≡ count
as_many count bytes h = (targets_encoded count bytes h).0

pub targets_prefix_code : (count : ℕ) → PrefixCode (EncodesTargets count)
targets_prefix_code count a b x y m n (lm, (p, ps)) (ln, (q, qs)) e =
    let o = many_prefix_code (EncodesUnsigned 32) (number_prefix_code 32) count a b x y p q ps qs e in
    (o.0, lm ∙ ap length o.0 ∙ sym ln)

abbrev default_of : ℕ → ℕ → List ℕ → BranchTable → Type 0
default_of count size text t = EncodesUnsigned 32 text t.default

abbrev after_count : ℕ → List ℕ → BranchTable → Type 0
after_count count = Then (EncodesTargets count) (default_of count)

abbrev Chain : List ℕ → BranchTable → Type 0
Chain = Then (EncodesSize max_targets) after_count

to_chain : (text : List ℕ) (t : BranchTable) → EncodesBranchTable text t → Chain text t
to_chain text t (count, default, e, pc, pt, pd) = (count, t.targets ++ default, t.count, e, pc, (t.targets, default, length t.targets, refl, (refl, pt), pd))

pub count_fails : {e : Error} {old : Reader} → Fails (EncodesSize max_targets) (CountFault size_name.BrTable max_targets) e old →
    Fails EncodesBranchTable BranchTableFault e old
count_fails {e} {old} (h, f) = (
  refuses_by Chain EncodesBranchTable e old (λ text t s. (t, to_chain text t s)) (then_first (EncodesSize max_targets) after_count e old h),
  inl (refused_now (EncodesSize max_targets) e old h, f),
)

module _ (old mid : Reader) (count : ℕ) (counted : HasRead (EncodesSize max_targets) count old mid) where
  chain_fails : {e : Error} → Fails (after_count count) (ManyFault (EncodesUnsigned 32) U32Fault (suc count)) e mid → Fails EncodesBranchTable BranchTableFault e old
  chain_fails {e} (h, fault) = (
    refuses_by Chain EncodesBranchTable e old (λ text t s. (
      t,
      to_chain text t s,
    )) (then_second (EncodesSize max_targets) after_count e old mid count (size_prefix_code max_targets) counted h),
    inr (count, mid, counted, fault),
  )

  pub targets_fail : {e : Error} → Fails (EncodesTargets count) (ManyFault (EncodesUnsigned 32) U32Fault count) e mid →
      Fails EncodesBranchTable BranchTableFault e old
  targets_fail {e} (h, f) =
      chain_fails (then_first (EncodesTargets count) (default_of count) e mid h, many_wider (EncodesUnsigned 32) U32Fault count e.message mid e.offset f)

  pub default_fails : (now : Reader) (size : ℕ) → HasRead (EncodesTargets count) size mid now → {e : Error} → Fails (EncodesUnsigned 32) U32Fault e now →
      Fails EncodesBranchTable BranchTableFault e old
  default_fails now size rt {e} (h, f) =
      let third = refuses_by (EncodesUnsigned 32) (default_of count size) e now (λ text t s. (t.default, s)) h in
      let numbers = rt.1.1 in
      let few : length numbers.0 < suc count = omega (arith, numbers.1.0) in
      chain_fails (
        then_second (EncodesTargets count) (default_of count) e mid now size (targets_prefix_code count) rt third,
        many_fault (EncodesUnsigned 32) U32Fault (suc count) numbers.0 rt.0 mid now e.message e.offset few numbers.1.1 rt.2
            (refused_now (EncodesUnsigned 32) e now h) f,
      )

  pub targets_taken : (now : Reader) (size : ℕ) (bytes : List ℕ) → bytes ≡ rest mid → (rt : HasRead (EncodesTargets count) size mid now) →
      take size bytes ≡ rt.0
  targets_taken now size bytes same rt = ap (take size) (same ∙ rt.2.parts) ∙ ap (λ n. take n (rt.0 ++ rest now)) rt.1.0 ∙ take-append_seam rt.0 (rest now)

  pub table_read : (now new : Reader) (size default : ℕ) (bytes : List ℕ) → bytes ≡ rest mid → HasRead (EncodesTargets count) size mid now →
      HasRead (EncodesUnsigned 32) default now new →
      HasRead EncodesBranchTable (record { count = count; targets = take size bytes; default = default }) old new
  table_read now new size default bytes same rt rd =
      let taken : take size bytes ≡ rt.0 = targets_taken now size bytes same rt in (
        counted.0 ++ (rt.0 ++ rd.0),
        (counted.0, rd.0, ap (λ z. counted.0 ++ (z ++ rd.0)) (sym taken), counted.1, subst (AreTargets count) (sym taken) rt.1.1, rd.1),
        takes_then old mid new counted.0 (rt.0 ++ rd.0) counted.2 (takes_then mid now new rt.0 rd.0 rt.2 rd.2),
      )

table_of : ℕ → ℕ → List ℕ → BranchTable
table_of count default targets = record { count = count; targets = targets; default = default }

same_parts : (s t : BranchTable) → s.count ≡ t.count → s.default ≡ t.default → s.targets ≡ t.targets → s ≡ t
unfolding table_of
same_parts s t c d ts = ap (λ z. table_of z s.default s.targets) c ∙ ap (λ z. table_of t.count z s.targets) d ∙ ap (λ z. table_of t.count t.default z) ts

pub table_prefix_code : PrefixCode EncodesBranchTable
table_prefix_code a b x y s t (c1, d1, ea, pc, (m, pm), pd) (c2, d2, eb, qc, (n, qm), qd) e =
    let whole : c1 ++ (s.targets ++ (d1 ++ x)) ≡ c2 ++ (t.targets ++ (d2 ++ y)) = sym (three c1 s.targets d1 x) ∙ ap (λ z. z ++ x) (sym ea) ∙ e ∙
    ap (λ z. z ++ y) eb ∙ three c2 t.targets d2 y in
    let counts = size_prefix_code max_targets c1 c2 (s.targets ++ (d1 ++ x)) (t.targets ++ (d2 ++ y)) s.count t.count pc qc whole in
    let after = same_rest c1 c2 (s.targets ++ (d1 ++ x)) (t.targets ++ (d2 ++ y)) counts.0 whole in
    let targets = many_prefix_code (EncodesUnsigned 32) (number_prefix_code 32) s.count s.targets t.targets (d1 ++ x) (d2 ++ y) m n pm
    (subst (λ z. EncodesMany (EncodesUnsigned 32) z t.targets n) (sym counts.1) qm) after in
    let defaults = unsigned_prefix_code d1 d2 32 x y s.default t.default pd qd (same_rest s.targets t.targets (d1 ++ x) (d2 ++ y) targets.0 after) in
    (ea ∙ cc (counts.0, targets.0, defaults.0) ∙ sym eb, same_parts s t counts.1 defaults.1 targets.0)
  where
    three : (p q r z : List ℕ) → (p ++ (q ++ r)) ++ z ≡ p ++ (q ++ (r ++ z))
    three p q r z = append_assoc p (q ++ r) z ∙ ap (λ w. p ++ w) (append_assoc q r z)

pub target_fails : (old now : Reader) (text done : List ℕ) (read count : ℕ) → EncodesMany (EncodesUnsigned 32) read text done → read < count →
    Takes old now text → {e : Error} → Fails (EncodesUnsigned 32) U32Fault e now →
    Fails (EncodesTargets count) (ManyFault (EncodesUnsigned 32) U32Fault count) e old
target_fails old now text done read count d l t {e} (h, f) =
    let few : length done < count = omega (arith, d.0, l) in (
      refuses_by (EncodesMany (EncodesUnsigned 32) count) (EncodesTargets count) e old (λ text n s. s.1)
          (many_refused (EncodesUnsigned 32) e old now text done read count (λ a b x y m n p q e. (number_prefix_code 32 a b x y m n p q e).0) d l t h),
      many_fault (EncodesUnsigned 32) U32Fault count done text old now e.message e.offset few d.1 t (refused_now (EncodesUnsigned 32) e now h) f,
    )

pub equal_targets : (s t : BranchTable) (m n : List ℕ) → same_table s t ≡ true → EncodesMany (EncodesUnsigned 32) s.count s.targets m →
    EncodesMany (EncodesUnsigned 32) t.count t.targets n → (m ≡ n) × (s.default ≡ t.default)
equal_targets s t m n e p q =
    let counts : s.count ≡ t.count = eqb-true s.count t.count (first_so (nat_eq s.count t.count) _ e) in
    let others = second_so (nat_eq s.count t.count) _ e in
    let defaults : s.default ≡ t.default = eqb-true s.default t.default (first_so (nat_eq s.default t.default) _ others) in
    let bytes : s.targets ≡ t.targets = same_text s.targets t.targets (sym (second_so (nat_eq s.default t.default) _ others)) in
    let same = subst (λ z. EncodesMany (EncodesUnsigned 32) t.count z n) (sym bytes) q in
    let again = subst (λ z. EncodesMany (EncodesUnsigned 32) z s.targets n) (sym counts) same in
    ((many_prefix_code (EncodesUnsigned 32) (number_prefix_code 32) s.count s.targets s.targets [] [] m n p again refl).1, defaults)
