use Rattle.std.proofs.Common.{◌≡◌, ℕ, ◌+◌, ◌<◌, List, [], ◌∷◌, ◌++◌, length, refl, sym, subst, ap, ◌∙◌, append_assoc, length-append, arith}
use Rattle.std.proofs.lemmas.List.{append-nil}
use Rattle.wasm_below.specs.declared.error.Error.{Error}
use Rattle.wasm_below.specs.Number.{EncodesSize}
use Rattle.wasm_below.specs.Source.{Reader, rest, Takes, NoPrefix, IsRefusal}
use Rattle.wasm_below.specs.Sequence.{PrefixCode}
use Rattle.wasm_below.proofs.TakesLemmas.{ahead_before, same_rest}
use Rattle.wasm_below.proofs.Sequences.{then_prefix_code}
use Rattle.wasm_below.proofs.PrefixCode.{size_prefix_code}
use Rattle.wasm_imm.specs.Lists.{EncodesEach, EncodesMany, EncodesList}

pub each_prefix_code : {X : Type 0} (P : List ℕ → X → Type 0) → PrefixCode P → (a b x y : List ℕ) (m n : List X) → length m ≡ length n → EncodesEach P a m →
    EncodesEach P b n → a ++ x ≡ b ++ y → (a ≡ b) × (m ≡ n)
each_prefix_code P prefix_code a b x y [] [] l p q e = (p ∙ sym q, refl)
each_prefix_code P prefix_code a b x y [] (v ∷ n) l p q e = absurd (omega (arith, l))
each_prefix_code P prefix_code a b x y (u ∷ m) [] l p q e = absurd (omega (arith, l))
each_prefix_code P prefix_code a b x y (u ∷ m) (v ∷ n) l (a1, a2, ea, pa, qa) (b1, b2, eb, pb, qb) e =
    let whole : a1 ++ (a2 ++ x) ≡ b1 ++ (b2 ++ y) = sym (append_assoc a1 a2 x) ∙ ap (λ z. z ++ x) (sym ea) ∙ e ∙ ap (λ z. z ++ y) eb ∙ append_assoc b1 b2 y in
    let o = prefix_code a1 b1 (a2 ++ x) (b2 ++ y) u v pa pb whole in
    let fewer : length m ≡ length n = omega (arith, l) in
    let t = each_prefix_code P prefix_code a2 b2 x y m n fewer qa qb (same_rest a1 b1 (a2 ++ x) (b2 ++ y) o.0 whole) in
    (ea ∙ cc (o.0, t.0) ∙ sym eb, cc (o.1, t.1))

pub many_prefix_code : {X : Type 0} (P : List ℕ → X → Type 0) → PrefixCode P → (count : ℕ) → PrefixCode (EncodesMany P count)
many_prefix_code P prefix_code count a b x y m n p q e = each_prefix_code P prefix_code a b x y m n (p.0 ∙ sym q.0) p.1 q.1 e

pub list_prefix_code : {X : Type 0} (limit : ℕ) (P : List ℕ → X → Type 0) → PrefixCode P → PrefixCode (EncodesList limit P)
list_prefix_code limit P prefix_code = then_prefix_code (EncodesSize limit) (EncodesMany P) (size_prefix_code limit) (many_prefix_code P prefix_code)

pub each_both : {X : Type 0} (P : List ℕ → X → Type 0) (text more : List ℕ) (xs ys : List X) → EncodesEach P text xs → EncodesEach P more ys →
    EncodesEach P (text ++ more) (xs ++ ys)
each_both P text more [] ys p q = subst (λ z. EncodesEach P (z ++ more) ys) (sym p) q
each_both P text more (x ∷ xs) ys (first, after, e, p, ps) q =
    (first, after ++ more, ap (λ z. z ++ more) e ∙ append_assoc first after more, p, each_both P after more xs ys ps q)

pub each_more : {X : Type 0} (P : List ℕ → X → Type 0) (text more : List ℕ) (xs : List X) (x : X) → EncodesEach P text xs → P more x →
    EncodesEach P (text ++ more) (xs ++ x ∷ [])
each_more P text more xs x p q = each_both P text more xs (x ∷ []) p (more, [], sym (append-nil more), q, refl)

pub many_more : {X : Type 0} (P : List ℕ → X → Type 0) (count : ℕ) (text more : List ℕ) (xs : List X) (x : X) → EncodesMany P count text xs → P more x →
    EncodesMany P (count + 1) (text ++ more) (xs ++ x ∷ [])
many_more P count text more xs x h q = (length-append xs (x ∷ []) ∙ ap (λ n. n + 1) h.0, each_more P text more xs x h.1 q)

-- no encoding is a proper prefix of another
abbrev pub PrefixAlone : {X : Type 0} → (List ℕ → X → Type 0) → Type 0
PrefixAlone {X} P = (a b x y : List ℕ) (m n : X) → P a m → P b n → a ++ x ≡ b ++ y → a ≡ b

each_no_prefix : {X : Type 0} (P : List ℕ → X → Type 0) → PrefixAlone P → (done xs : List X) (text after t2 more : List ℕ) → EncodesEach P text done →
    EncodesEach P t2 xs → length done < length xs → text ++ after ≡ t2 ++ more → NoPrefix P after → ⊥
each_no_prefix P prefix_code [] [] text after t2 more p q l e none = absurd (omega (arith, l))
each_no_prefix P prefix_code [] (v ∷ xs) text after t2 more p (first, later, eb, pb, qb) l e none =
    none first (later ++ more) v pb (ap (λ z. z ++ after) (sym p) ∙ e ∙ ap (λ z. z ++ more) eb ∙ append_assoc first later more)
each_no_prefix P prefix_code (u ∷ done) [] text after t2 more p q l e none = absurd (omega (arith, l))
each_no_prefix P prefix_code (u ∷ done) (v ∷ xs) text after t2 more (a1, a2, ea, pa, qa) (b1, b2, eb, pb, qb) l e none =
    let whole : a1 ++ (a2 ++ after) ≡ b1 ++ (b2 ++ more) = sym (append_assoc a1 a2 after) ∙ ap (λ z. z ++ after) (sym ea) ∙ e ∙ ap (λ z. z ++ more) eb ∙
    append_assoc b1 b2 more in
    let o = prefix_code a1 b1 (a2 ++ after) (b2 ++ more) u v pa pb whole in
    each_no_prefix P prefix_code done xs a2 after b2 more qa qb (omega (arith, l)) (same_rest a1 b1 (a2 ++ after) (b2 ++ more) o whole) none

pub many_none : {X : Type 0} (P : List ℕ → X → Type 0) (old now : Reader) (text : List ℕ) (done : List X) (read count : ℕ) → PrefixAlone P →
    EncodesMany P read text done → read < count → Takes old now text → (more : List ℕ) → NoPrefix P (rest now ++ more) →
    NoPrefix (EncodesMany P count) (rest old ++ more)
many_none P old now text done read count prefix_code d l t more none t2 more2 xs q eq =
    let whole : text ++ (rest now ++ more) ≡ t2 ++ more2 = sym (append_assoc text (rest now) more) ∙ ap (λ z. z ++ more) (sym t.parts) ∙ eq in
    each_no_prefix P prefix_code done xs text (rest now ++ more) t2 more2 d.1 q.1 (omega (arith, d.0, q.0, l)) whole none

pub many_refused : {X : Type 0} (P : List ℕ → X → Type 0) (e : Error) (old now : Reader) (text : List ℕ) (done : List X) (read count : ℕ) → PrefixAlone P →
    EncodesMany P read text done → read < count → Takes old now text → IsRefusal P e now → IsRefusal (EncodesMany P count) e old
many_refused P e old now text done read count prefix_code d l t h =
    record {
      refuses = λ more follow. many_none P old now text done read count prefix_code d l t more (h.refuses more follow);
      fault = h.fault;
      ahead = ahead_before old now text e.offset t h.ahead;
    }
