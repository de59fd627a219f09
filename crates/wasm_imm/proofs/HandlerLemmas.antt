use Rattle.std.proofs.Common.{◌≡◌, ℕ, ◌≤◌, ◌<◌, List, [], ◌∷◌, ◌++◌, inl, inr, refl, sym, ap, ◌∙◌, append_assoc, arith}
use Rattle.wasm_below.specs.Ahead.{Fails}
use Rattle.wasm_below.specs.declared.error.Error.{Error}
use Rattle.wasm_below.specs.declared.message.LeadingByteName.{LeadingByteName}
use Rattle.wasm_below.specs.declared.message.Message.{Message}
use Rattle.wasm_below.specs.Fault.{ThenFault}
use Rattle.wasm_below.specs.Number.{EncodesUnsigned}
use Rattle.wasm_below.specs.Sequence.{Then, PrefixCode}
use Rattle.wasm_below.specs.Source.{Reader, HasRead, IsByte, U32Fault, EndFault}
use Rattle.wasm_below.proofs.Ahead.{first_fails, second_fails, fails_as}
use Rattle.wasm_below.proofs.PrefixCode.{byte_prefix_code, unsigned_prefix_code}
use Rattle.wasm_below.proofs.Sequences.{then_second, refuses_by}
use Rattle.wasm_below.proofs.TakesLemmas.{same_rest, takes_then}
use Rattle.wasm_imm.specs.declared.handlers.Catch.{Catch}
use Rattle.wasm_imm.specs.declared.handlers.Catch.TheVariants as clause
use Rattle.wasm_imm.specs.declared.handlers.Handle.{Handle}
use Rattle.wasm_imm.specs.declared.handlers.Handle.TheVariants as handle
use Rattle.wasm_imm.specs.Handlers.{EncodesPair, catch_byte, EncodesCatchIndices, EncodesCatch, handle_byte, EncodesHandleIndices, EncodesHandle, IsCatchAfterByte, IsHandleAfterByte}
use Rattle.wasm_below.proofs.Prefixes.{end_refused}
use Rattle.wasm_below.proofs.Steps.{number_prefix_code}
use Rattle.wasm_below.specs.declared.message.LeadingByteName.TheVariants as leading_name
use Rattle.wasm_imm.specs.HandlerFaults.{IsLeading, LeadingFault, PairFault, IndicesFault, CatchFault, HandleFault}
use Rattle.wasm_imm.proofs.Faults.{leading_ended}

pub pair_prefix_code : PrefixCode EncodesPair
pair_prefix_code a b x y m n (a1, a2, ea, pa, qa) (b1, b2, eb, pb, qb) e =
    let whole : a1 ++ (a2 ++ x) ≡ b1 ++ (b2 ++ y) = sym (append_assoc a1 a2 x) ∙ ap (λ z. z ++ x) (sym ea) ∙ e ∙ ap (λ z. z ++ y) eb ∙ append_assoc b1 b2 y in
    let o = unsigned_prefix_code a1 b1 32 (a2 ++ x) (b2 ++ y) m.0 n.0 pa pb whole in
    let t = unsigned_prefix_code a2 b2 32 x y m.1 n.1 qa qb (same_rest a1 b1 (a2 ++ x) (b2 ++ y) o.0 whole) in
    (ea ∙ cc (o.0, t.0) ∙ sym eb, λ i. (o.1 i, t.1 i))

abbrev second_of : ℕ → List ℕ → ℕ × ℕ → Type 0
second_of first text p = EncodesUnsigned 32 text p.1

pair_fails : {e : Error} {old : Reader} → Fails (Then (EncodesUnsigned 32) second_of) PairFault e old → Fails EncodesPair PairFault e old
pair_fails =
    fails_as (Then (EncodesUnsigned 32) second_of) EncodesPair PairFault PairFault (λ text p (a, b, ab, pa, pb). (p, (a, b, p.0, ab, pa, pb))) (λ f. f)

pub pair_first : {e : Error} {old : Reader} → Fails (EncodesUnsigned 32) U32Fault e old → Fails EncodesPair PairFault e old
pair_first h = pair_fails (first_fails (EncodesUnsigned 32) second_of U32Fault (λ tag. U32Fault) h)

pub pair_second : (old mid : Reader) (first : ℕ) → HasRead (EncodesUnsigned 32) first old mid → {e : Error} → Fails (EncodesUnsigned 32) U32Fault e mid →
    Fails EncodesPair PairFault e old
pair_second old mid first r h =
    pair_fails (second_fails (EncodesUnsigned 32) second_of U32Fault (λ tag. U32Fault) (number_prefix_code 32) r
    (fails_as (EncodesUnsigned 32) (second_of first) U32Fault U32Fault (λ text p q. (p.1, q)) (λ f. f) h))

pub pair_read : (old mid new : Reader) (first second : ℕ) → HasRead (EncodesUnsigned 32) first old mid → HasRead (EncodesUnsigned 32) second mid new →
    HasRead EncodesPair (first, second) old new
pair_read old mid new first second (a, p, s) (b, q, t) = (a ++ b, (a, b, refl, p, q), takes_then old mid new a b s t)

catch_indices_prefix_code : (a b x y : List ℕ) (m n : Catch) → EncodesCatchIndices a m → EncodesCatchIndices b n → catch_byte m ≡ catch_byte n →
    a ++ x ≡ b ++ y → (a ≡ b) × (m ≡ n)
catch_indices_prefix_code a b x y (clause.One m1 m2) (clause.One n1 n2) p q same e = let o = pair_prefix_code a b x y (m1, m2) (n1, n2) p q e in
    (o.0, λ i. clause.One ((o.1 i).0) ((o.1 i).1))
catch_indices_prefix_code a b x y (clause.One m1 m2) (clause.OneRef n1 n2) p q same e = absurd (omega arith)
catch_indices_prefix_code a b x y (clause.One m1 m2) (clause.All n1) p q same e = absurd (omega arith)
catch_indices_prefix_code a b x y (clause.One m1 m2) (clause.AllRef n1) p q same e = absurd (omega arith)
catch_indices_prefix_code a b x y (clause.OneRef m1 m2) (clause.One n1 n2) p q same e = absurd (omega arith)
catch_indices_prefix_code a b x y (clause.OneRef m1 m2) (clause.OneRef n1 n2) p q same e = let o = pair_prefix_code a b x y (m1, m2) (n1, n2) p q e in
    (o.0, λ i. clause.OneRef ((o.1 i).0) ((o.1 i).1))
catch_indices_prefix_code a b x y (clause.OneRef m1 m2) (clause.All n1) p q same e = absurd (omega arith)
catch_indices_prefix_code a b x y (clause.OneRef m1 m2) (clause.AllRef n1) p q same e = absurd (omega arith)
catch_indices_prefix_code a b x y (clause.All m1) (clause.One n1 n2) p q same e = absurd (omega arith)
catch_indices_prefix_code a b x y (clause.All m1) (clause.OneRef n1 n2) p q same e = absurd (omega arith)
catch_indices_prefix_code a b x y (clause.All m1) (clause.All n1) p q same e = let o = unsigned_prefix_code a b 32 x y m1 n1 p q e in (o.0, ap clause.All o.1)
catch_indices_prefix_code a b x y (clause.All m1) (clause.AllRef n1) p q same e = absurd (omega arith)
catch_indices_prefix_code a b x y (clause.AllRef m1) (clause.One n1 n2) p q same e = absurd (omega arith)
catch_indices_prefix_code a b x y (clause.AllRef m1) (clause.OneRef n1 n2) p q same e = absurd (omega arith)
catch_indices_prefix_code a b x y (clause.AllRef m1) (clause.All n1) p q same e = absurd (omega arith)
catch_indices_prefix_code a b x y (clause.AllRef m1) (clause.AllRef n1) p q same e = let o = unsigned_prefix_code a b 32 x y m1 n1 p q e in
    (o.0, ap clause.AllRef o.1)

pub catch_prefix_code : PrefixCode EncodesCatch
catch_prefix_code a b x y m n (a2, ea, p) (b2, eb, q) e =
    let whole : catch_byte m ∷ (a2 ++ x) ≡ catch_byte n ∷ (b2 ++ y) = ap (λ z. z ++ x) (sym ea) ∙ e ∙ ap (λ z. z ++ y) eb in
    let same : catch_byte m ≡ catch_byte n = cc whole in
    let o = catch_indices_prefix_code a2 b2 x y m n p q same (cc whole) in
    (ea ∙ cc (same, o.0) ∙ sym eb, o.1)

pub catch_pair : (byte : ℕ) → byte ≤ 1 → (text : List ℕ) (c : Catch) → IsCatchAfterByte byte text c → (p : ℕ × ℕ) × EncodesPair text p
catch_pair byte le text (clause.One tag label) h = ((tag, label), h.1)
catch_pair byte le text (clause.OneRef tag label) h = ((tag, label), h.1)
catch_pair byte le text (clause.All label) h = absurd (omega (arith, h.0))
catch_pair byte le text (clause.AllRef label) h = absurd (omega (arith, h.0))

handle_indices_prefix_code : (a b x y : List ℕ) (m n : Handle) → EncodesHandleIndices a m → EncodesHandleIndices b n → handle_byte m ≡ handle_byte n →
    a ++ x ≡ b ++ y → (a ≡ b) × (m ≡ n)
handle_indices_prefix_code a b x y (handle.OnLabel m1 m2) (handle.OnLabel n1 n2) p q same e = let o = pair_prefix_code a b x y (m1, m2) (n1, n2) p q e in
    (o.0, λ i. handle.OnLabel ((o.1 i).0) ((o.1 i).1))
handle_indices_prefix_code a b x y (handle.OnLabel m1 m2) (handle.OnSwitch n1) p q same e = absurd (omega arith)
handle_indices_prefix_code a b x y (handle.OnSwitch m1) (handle.OnLabel n1 n2) p q same e = absurd (omega arith)
handle_indices_prefix_code a b x y (handle.OnSwitch m1) (handle.OnSwitch n1) p q same e = let o = unsigned_prefix_code a b 32 x y m1 n1 p q e in
    (o.0, ap handle.OnSwitch o.1)

pub handle_prefix_code : PrefixCode EncodesHandle
handle_prefix_code a b x y m n (a2, ea, p) (b2, eb, q) e =
    let whole : handle_byte m ∷ (a2 ++ x) ≡ handle_byte n ∷ (b2 ++ y) = ap (λ z. z ++ x) (sym ea) ∙ e ∙ ap (λ z. z ++ y) eb in
    let same : handle_byte m ≡ handle_byte n = cc whole in
    let o = handle_indices_prefix_code a2 b2 x y m n p q same (cc whole) in
    (ea ∙ cc (same, o.0) ∙ sym eb, o.1)

pub handle_pair : (byte : ℕ) → byte ≡ 0 → (text : List ℕ) (h : Handle) → IsHandleAfterByte byte text h → (p : ℕ × ℕ) × EncodesPair text p
handle_pair byte none text (handle.OnLabel tag label) h = ((tag, label), h.1)
handle_pair byte none text (handle.OnSwitch tag) h = absurd (omega (arith, h.0))

catch_low : (c : Catch) → catch_byte c ≤ 3
catch_low (clause.One tag label) = omega arith
catch_low (clause.OneRef tag label) = omega arith
catch_low (clause.All label) = omega arith
catch_low (clause.AllRef label) = omega arith

handle_low : (h : Handle) → handle_byte h ≤ 1
handle_low (handle.OnLabel tag label) = omega arith
handle_low (handle.OnSwitch tag) = omega arith

-- Indices after a leading byte of at most `highest`.
module _ {X : Type 0} (highest last : ℕ) (few : highest < 256) (name : LeadingByteName) (byte_of : X → ℕ) (low : (x : X) → byte_of x ≤ highest)
    (Indices : List ℕ → X → Type 0) where
  abbrev Led : List ℕ → X → Type 0
  Led text x = (after : List ℕ) × (text ≡ byte_of x ∷ after) × Indices after x

  abbrev LedFault : Message → Reader → ℕ → Type 0
  LedFault = ThenFault (IsLeading highest) (LeadingFault name highest) (IndicesFault last)

  abbrev AfterByte : ℕ → List ℕ → X → Type 0
  AfterByte byte text x = (byte ≡ byte_of x) × Indices text x

  parts_of : (text : List ℕ) (x : X) → Led text x → Then IsByte AfterByte text x
  parts_of text x (after, is, p) = let most = low x in (byte_of x ∷ [], after, byte_of x, is, (refl, omega (arith, most, few)), (refl, p))

  byte_fails : {e : Error} {old : Reader} → Fails IsByte EndFault e old → Fails Led LedFault e old
  byte_fails {e} {old} (h, f) =
      (end_refused Led e old (λ x p. let none : [] ≡ byte_of x ∷ p.0 = p.1 in cc none) f, inl (leading_ended name highest e old h f))

  indices_fail : (old mid : Reader) (byte : ℕ) → HasRead IsByte byte old mid → byte ≤ highest → {e : Error} → Fails (AfterByte byte) (IndicesFault last byte) e mid →
      Fails Led LedFault e old
  indices_fail old mid byte read most {e} (h, f) = (
    refuses_by (Then IsByte AfterByte) Led e old (λ text x s. (x, parts_of text x s)) (then_second IsByte AfterByte e old mid byte byte_prefix_code read h),
    inr (byte, mid, (read.0, (read.1, most), read.2), f),
  )

pub catch_byte_fails : {e : Error} {old : Reader} → Fails IsByte EndFault e old → Fails EncodesCatch CatchFault e old
catch_byte_fails = byte_fails 3 1 (omega arith) leading_name.Catch catch_byte catch_low EncodesCatchIndices

pub catch_indices_fail : (old mid : Reader) (byte : ℕ) → HasRead IsByte byte old mid → byte ≤ 3 → {e : Error} →
    Fails (IsCatchAfterByte byte) (IndicesFault 1 byte) e mid → Fails EncodesCatch CatchFault e old
catch_indices_fail = indices_fail 3 1 (omega arith) leading_name.Catch catch_byte catch_low EncodesCatchIndices

pub handle_byte_fails : {e : Error} {old : Reader} → Fails IsByte EndFault e old → Fails EncodesHandle HandleFault e old
handle_byte_fails = byte_fails 1 0 (omega arith) leading_name.OnClause handle_byte handle_low EncodesHandleIndices

pub handle_indices_fail : (old mid : Reader) (byte : ℕ) → HasRead IsByte byte old mid → byte ≤ 1 → {e : Error} →
    Fails (IsHandleAfterByte byte) (IndicesFault 0 byte) e mid → Fails EncodesHandle HandleFault e old
handle_indices_fail = indices_fail 1 0 (omega arith) leading_name.OnClause handle_byte handle_low EncodesHandleIndices
