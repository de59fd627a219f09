-- Reading encoded values to the end of the data, and the sum of what they count.
use Rattle.std.proofs.Common.{◌≡◌, ℕ, ◌+◌, ◌%◌, ◌^◌, ◌<◌, List, [], ◌∷◌, ◌++◌, length, refl, sym, subst, ap, ◌∙◌, append_assoc, length-append, arith}
use Rattle.std.specs.Prelude.{sum_by}
use Rattle.std.proofs.lemmas.List.Sums.{sum_by-append}
use Rattle.std.proofs.Math.Nat.{mod-add-mod}
use Rattle.std.proofs.lemmas.List.{append-nil}
use Rattle.wasm_operators.specs.below.Source.{Reader, rest, Takes, NoPrefix, HasRead}
use Rattle.wasm_operators.specs.below.Sequence.{PrefixCode, Then}
use Rattle.wasm_below.proofs.TakesLemmas.{takes_then, same_rest}
use Rattle.wasm_operators.specs.imm.Lists.{EncodesEach}
use Rattle.wasm_imm.proofs.ListLemmas.{each_more}
use Rattle.wasm_bench.specs.Sums.{IsSumOf}

sum_more : {X : Type 0} (counts : X → ℕ) (xs : List X) (x : X) → sum_by counts (xs ++ x ∷ []) ≡ sum_by counts xs + counts x
sum_more counts xs x = sum_by-append counts xs (x ∷ []) ∙ omega arith

-- The values that are read so far, and the sum of what they count.
pub record SumSoFar {X : Type 0} (Encodes : List ℕ → X → Type 0) (counts : X → ℕ) (first now : Reader) (total : ℕ) : Type 0 where
  pub text : List ℕ
  pub done : List X
  pub each : EncodesEach Encodes text done
  pub taken : Takes first now text
  pub total_is : total ≡ sum_by counts done % 2 ^ 64

pub one_more : {X : Type 0} (Encodes : List ℕ → X → Type 0) (counts : X → ℕ) (first now new : Reader) (total total2 : ℕ) (x : X) →
    SumSoFar Encodes counts first now total → HasRead Encodes x now new → total2 ≡ (total + counts x) % 2 ^ 64 → SumSoFar Encodes counts first new total2
one_more Encodes counts first now new total total2 x s (text, p, t) e =
    record {
      text = s.text ++ text;
      done = s.done ++ x ∷ [];
      each = each_more Encodes s.text text s.done x s.each p;
      taken = takes_then first now new s.text text s.taken t;
      total_is = e ∙ ap (λ n. (n + counts x) % 2 ^ 64) s.total_is ∙ mod-add-mod (sum_by counts s.done) (2 ^ 64) (counts x) ∙
          ap (λ n. n % 2 ^ 64) (sym (sum_more counts s.done x));
    }

others : {X : Type 0} (Encodes : List ℕ → X → Type 0) → PrefixCode Encodes → ((text : List ℕ) (x : X) → Encodes text x → 0 < length text) →
    (text after : List ℕ) (done values : List X) → EncodesEach Encodes text done → EncodesEach Encodes (text ++ after) values →
    (more : List X) × (values ≡ done ++ more) × EncodesEach Encodes after more
others Encodes code some text after [] values p q = (values, refl, subst (λ z. EncodesEach Encodes z values) (ap (λ z. z ++ after) p) q)
others Encodes code some text after (x ∷ done) [] (first, later, e, p, ps) q =
    absurd (omega (arith, some first x p, ap length q, length-append text after, ap length e, length-append first later))
others Encodes code some text after (x ∷ done) (y ∷ values) (a1, a2, ea, pa, qa) (b1, b2, eb, pb, qb) =
    let whole : a1 ++ (a2 ++ after) ≡ b1 ++ b2 = sym (append_assoc a1 a2 after) ∙ ap (λ z. z ++ after) (sym ea) ∙ eb in
    let o = code a1 b1 (a2 ++ after) b2 x y pa pb whole in
    let later : a2 ++ after ≡ b2 = same_rest a1 b1 (a2 ++ after) b2 o.0 whole in
    let t = others Encodes code some a2 after done values qa (subst (λ z. EncodesEach Encodes z values) (sym later) qb) in
    (t.0, cc (o.1, t.1), t.2)

none_of : {X : Type 0} (Encodes : List ℕ → X → Type 0) (counts : X → ℕ) (done : List X) (more : List X) → more ≡ [] →
    sum_by counts (done ++ more) ≡ sum_by counts done
none_of Encodes counts done more e = ap (λ z. sum_by counts z) (ap (λ z. done ++ z) e ∙ append-nil done)

pub summed : {X : Type 0} (Encodes : List ℕ → X → Type 0) (counts : X → ℕ) → PrefixCode Encodes →
    ((text : List ℕ) (x : X) → Encodes text x → 0 < length text) → (bytes : List ℕ) (first now : Reader) (total : ℕ) → rest first ≡ bytes →
    SumSoFar Encodes counts first now total → NoPrefix Encodes (rest now) → IsSumOf Encodes counts bytes total
summed {X} Encodes counts code some bytes first now total at s none values p =
    let all : EncodesEach Encodes (s.text ++ rest now) values = subst (λ z. EncodesEach Encodes z values) (sym at ∙ s.taken.parts) p in
    let o = others Encodes code some s.text (rest now) s.done values s.each all in
    s.total_is ∙ ap (λ n. n % 2 ^ 64) (sym (ap (λ z. sum_by counts z) o.1 ∙ none_of Encodes counts s.done o.0 (go o.0 o.2)))
  where
    go : (more : List X) → EncodesEach Encodes (rest now) more → more ≡ []
    go [] q = refl
    go (z ∷ more) (a, b, e, q, qs) = absurd (none a b z q e)

pub none_at_end : {X : Type 0} (Encodes : List ℕ → X → Type 0) → ((text : List ℕ) (x : X) → Encodes text x → 0 < length text) → (bytes : List ℕ) →
    bytes ≡ [] → NoPrefix Encodes bytes
none_at_end Encodes some bytes end text more x p e = absurd (omega (arith, some text x p, ap length (sym end ∙ e), length-append text more))

pub then_some : {X Y : Type 0} (First : List ℕ → X → Type 0) (Second : X → List ℕ → Y → Type 0) → ((text : List ℕ) (x : X) → First text x → 0 < length text) →
    (text : List ℕ) (y : Y) → Then First Second text y → 0 < length text
then_some First Second some text y (first, second, x, e, p, q) = omega (arith, some first x p, ap length e, length-append first second)

pub filled : {X : Type 0} (Encodes : List ℕ → X → Type 0) → ((x : X) → Encodes [] x → ⊥) → (text : List ℕ) (x : X) → Encodes text x → 0 < length text
filled Encodes none [] x p = absurd (none x p)
filled Encodes none (c ∷ text) x p = omega arith
