use Rattle.std.proofs.Common.{◌≡◌, ℕ, List, ◌++◌, sym, subst, ap, ◌∙◌, append_assoc}
use Rattle.wasm_below.specs.declared.error.Error.{Error}
use Rattle.wasm_below.specs.Source.{Reader, rest, NoPrefix, IsRefusal, HasRead}
use Rattle.wasm_below.specs.Sequence.{Then, PrefixCode}
use Rattle.wasm_below.proofs.TakesLemmas.{ahead_before, same_rest}

then_no_first : {X Y : Type 0} (P : List ℕ → X → Type 0) (Q : X → List ℕ → Y → Type 0) (bytes : List ℕ) → NoPrefix P bytes → NoPrefix (Then P Q) bytes
then_no_first P Q bytes none text rest y (first, second, x, e, p, q) eq =
    none first (second ++ rest) x p (eq ∙ ap (λ z. z ++ rest) e ∙ append_assoc first second rest)

pub then_no_second : {X Y : Type 0} (P : List ℕ → X → Type 0) (Q : X → List ℕ → Y → Type 0) (text after more : List ℕ) (x : X) → PrefixCode P → P text x →
    NoPrefix (Q x) (after ++ more) → NoPrefix (Then P Q) ((text ++ after) ++ more)
then_no_second P Q text after more x prefix_code p none t2 rest y (first, second, x2, e, p2, q) eq =
    let whole : text ++ (after ++ more) ≡ first ++ (second ++ rest) = sym (append_assoc text after more) ∙ eq ∙ ap (λ z. z ++ rest) e ∙
    append_assoc first second rest in
    let o = prefix_code text first (after ++ more) (second ++ rest) x x2 p p2 whole in
    none second rest y (subst (λ z. Q z second y) (sym o.1) q) (same_rest text first (after ++ more) (second ++ rest) o.0 whole)

pub then_first : {X Y : Type 0} (P : List ℕ → X → Type 0) (Q : X → List ℕ → Y → Type 0) (e : Error) (old : Reader) → IsRefusal P e old →
    IsRefusal (Then P Q) e old
then_first P Q e old h =
    record { refuses = λ more follow. then_no_first P Q (rest old ++ more) (h.refuses more follow); fault = h.fault; ahead = h.ahead }

pub then_second : {X Y : Type 0} (P : List ℕ → X → Type 0) (Q : X → List ℕ → Y → Type 0) (e : Error) (old mid : Reader) (x : X) → PrefixCode P →
    HasRead P x old mid → IsRefusal (Q x) e mid → IsRefusal (Then P Q) e old
then_second P Q e old mid x prefix_code (text, p, takes) h =
    record {
      refuses = λ more follow. subst (λ z. NoPrefix (Then P Q) (z ++ more)) (sym takes.parts)
          (then_no_second P Q text (rest mid) more x prefix_code p (h.refuses more follow));
      fault = h.fault;
      ahead = ahead_before old mid text e.offset takes h.ahead;
    }

pub then_prefix_code : {X Y : Type 0} (P : List ℕ → X → Type 0) (Q : X → List ℕ → Y → Type 0) → PrefixCode P → ((x : X) → PrefixCode (Q x)) →
    PrefixCode (Then P Q)
then_prefix_code P Q op oq a b x y m n (a1, a2, u, ea, pa, qa) (b1, b2, v, eb, pb, qb) e =
    let whole : a1 ++ (a2 ++ x) ≡ b1 ++ (b2 ++ y) = sym (append_assoc a1 a2 x) ∙ ap (λ z. z ++ x) (sym ea) ∙ e ∙ ap (λ z. z ++ y) eb ∙ append_assoc b1 b2 y in
    let o = op a1 b1 (a2 ++ x) (b2 ++ y) u v pa pb whole in
    let t = oq u a2 b2 x y m n qa (subst (λ z. Q z b2 n) (sym o.1) qb) (same_rest a1 b1 (a2 ++ x) (b2 ++ y) o.0 whole) in
    (ea ∙ cc (o.0, t.0) ∙ sym eb, t.1)

pub refuses_by : {X Y : Type 0} (P : List ℕ → X → Type 0) (Q : List ℕ → Y → Type 0) (e : Error) (old : Reader) →
    ((text : List ℕ) (y : Y) → Q text y → (x : X) × P text x) → IsRefusal P e old → IsRefusal Q e old
refuses_by P Q e old f h =
    record { refuses = λ more follow text rest y q eq. let p = f text y q in h.refuses more follow text rest p.0 p.1 eq; fault = h.fault; ahead = h.ahead }
