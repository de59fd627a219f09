-- Open frames in an array, the innermost last.
use Rattle.std.proofs.Common.{◌≡◌, ℕ, ◌≤◌, ◌<◌, ◌+◌, ◌-◌, List, [], ◌∷◌, ◌++◌, length, set, get_or, take, zero, suc, Some, refl, sym, ap, ◌∙◌, arith}
use Rattle.wasm_operators.specs.grammar.declared.frame_kind.FrameKind.{FrameKind}
use Rattle.wasm_operators.specs.grammar.Frames.{innermost, without_innermost, without_innermost_in}
use Rattle.wasm_grammar.proofs.Innermost.{innermost-push, without_innermost-push, whole_again}
use Rattle.wasm_c.specs.Frames.{kind_of, kinds}

last_innermost : (frames : List FrameKind) (kind : FrameKind) → innermost frames ≡ Some kind → (outer : List FrameKind) × (frames ≡ outer ++ kind ∷ [])
last_innermost [] kind is = absurd (cc is)
last_innermost (f ∷ frames) kind is =
    let outer = without_innermost_in f frames in
    (outer, sym (whole_again f frames) ∙ ap (λ k. outer ++ k ∷ []) (cc is))

pub take_one : (list : List ℕ) (n : ℕ) → n < length list → (x : ℕ) × (take (suc n) list ≡ take n list ++ x ∷ [])
take_one [] n within = absurd (omega (arith, within))
take_one (x ∷ xs) zero within = (x, refl)
take_one (x ∷ xs) (suc n) within =
    let rest = take_one xs n (omega (arith, within)) in
    (rest.0, ap (λ list. x ∷ list) rest.1)

pub take_set : (list : List ℕ) (n x : ℕ) → n < length list → take (suc n) (set list n x) ≡ take n list ++ x ∷ []
take_set [] n x within = absurd (omega (arith, within))
take_set (y ∷ ys) zero x within = refl
take_set (y ∷ ys) (suc n) x within = ap (λ list. y ∷ list) (take_set ys n x (omega (arith, within)))

pub kinds_join : (first second : List ℕ) → kinds (first ++ second) ≡ kinds first ++ kinds second
kinds_join [] second = refl
kinds_join (b ∷ bytes) second = ap (λ list. kind_of b ∷ list) (kinds_join bytes second)

head_same : {X : Type 0} {x y : X} {xs ys : List X} → x ∷ xs ≡ y ∷ ys → x ≡ y
head_same e = cc e

tail_same : {X : Type 0} {x y : X} {xs ys : List X} → x ∷ xs ≡ y ∷ ys → xs ≡ ys
tail_same e = cc e

pub front_same : {X : Type 0} (first second : List X) (x y : X) → first ++ x ∷ [] ≡ second ++ y ∷ [] → first ≡ second
front_same [] [] x y is = refl
front_same [] (s ∷ []) x y is = absurd (cc is)
front_same [] (s ∷ t ∷ second) x y is = absurd (cc is)
front_same (f ∷ []) [] x y is = absurd (cc is)
front_same (f ∷ g ∷ first) [] x y is = absurd (cc is)
front_same (f ∷ first) (s ∷ second) x y is =
    ap (λ z. z ∷ first) (head_same is) ∙ ap (λ list. s ∷ list) (front_same first second x y (tail_same is))

-- The frames around the innermost of `depth` frames.
outer_kinds : (list : List ℕ) (outer : List FrameKind) (kind : FrameKind) (depth : ℕ) → 0 < depth → depth ≤ length list →
    kinds (take depth list) ≡ outer ++ kind ∷ [] → kinds (take (depth - 1) list) ≡ outer
outer_kinds list outer kind zero some within is = absurd (omega (arith, some))
outer_kinds list outer kind (suc n) some within is =
    let last = take_one list n (omega (arith, within)) in
    let split : kinds (take (suc n) list) ≡ kinds (take n list) ++ kind_of last.0 ∷ [] = ap kinds last.1 ∙ kinds_join (take n list) (last.0 ∷ []) in
    ap (λ m. kinds (take m list)) (sub-one n) ∙ front_same (kinds (take n list)) outer (kind_of last.0) kind (sym split ∙ is)
  where
    sub-one : (n : ℕ) → suc n - 1 ≡ n
    sub-one n = omega arith

-- The frames after the innermost has become another.
turned : (list : List ℕ) (outer : List FrameKind) (kind other : FrameKind) (depth byte : ℕ) → 0 < depth → depth ≤ length list →
    kinds (take depth list) ≡ outer ++ kind ∷ [] → kind_of byte ≡ other → kinds (take depth (set list (depth - 1) byte)) ≡ outer ++ other ∷ []
turned list outer kind other zero byte some within is same = absurd (omega (arith, some))
turned list outer kind other (suc n) byte some within is same =
    let less : suc n - 1 ≡ n = omega arith in
    let front : kinds (take n list) ≡ outer = ap (λ m. kinds (take m list)) (sym less) ∙ outer_kinds list outer kind (suc n) some within is in
    ap (λ m. kinds (take (suc n) (set list m byte))) less ∙ ap kinds (take_set list n byte (omega (arith, within))) ∙ kinds_join (take n list) (byte ∷ []) ∙
    ap (λ k. kinds (take n list) ++ k ∷ []) same ∙ ap (λ list. list ++ other ∷ []) front

next_taken : (list : List ℕ) (n : ℕ) → n < length list → take (suc n) list ≡ take n list ++ get_or list n 0 ∷ []
next_taken [] n within = absurd (omega (arith, within))
next_taken (y ∷ ys) zero within = refl
next_taken (y ∷ ys) (suc n) within = ap (λ list. y ∷ list) (next_taken ys n (omega (arith, within)))

-- The innermost of `depth` frames.
pub innermost_taken : (list : List ℕ) (depth : ℕ) → 0 < depth → depth ≤ length list →
    Some (kind_of (get_or list (depth - 1) 0)) ≡ innermost (kinds (take depth list))
innermost_taken list zero some within = absurd (omega (arith, some))
innermost_taken list (suc n) some within =
    let less : suc n - 1 ≡ n = omega arith in
    ap (λ m. Some (kind_of (get_or list m 0))) less ∙
    sym (ap (λ items. innermost (kinds items)) (next_taken list n (omega (arith, within))) ∙
    ap innermost (kinds_join (take n list) (get_or list n 0 ∷ [])) ∙ innermost-push (kinds (take n list)) (kind_of (get_or list n 0)))

-- The array after a change of its frames.
pub opened_in : (list : List ℕ) (kind : FrameKind) (depth byte : ℕ) → depth < length list → kind_of byte ≡ kind →
    kinds (take (depth + 1) (set list depth byte)) ≡ kinds (take depth list) ++ kind ∷ []
opened_in list kind depth byte fits same =
    let more : depth + 1 ≡ suc depth = omega arith in
    ap (λ m. kinds (take m (set list depth byte))) more ∙ ap kinds (take_set list depth byte fits) ∙ kinds_join (take depth list) (byte ∷ []) ∙
    ap (λ k. kinds (take depth list) ++ k ∷ []) same

pub closed_in : (list : List ℕ) (depth : ℕ) → 0 < depth → depth ≤ length list → kinds (take (depth - 1) list) ≡ without_innermost (kinds (take depth list))
closed_in list depth some within =
    let kind : FrameKind = kind_of (get_or list (depth - 1) 0) in
    let last = last_innermost (kinds (take depth list)) kind (sym (innermost_taken list depth some within)) in
    outer_kinds list last.0 kind depth some within last.1 ∙ sym (ap without_innermost last.1 ∙ without_innermost-push last.0 kind)

pub turned_in : (list : List ℕ) (kind : FrameKind) (depth byte : ℕ) → 0 < depth → depth ≤ length list → kind_of byte ≡ kind →
    kinds (take depth (set list (depth - 1) byte)) ≡ without_innermost (kinds (take depth list)) ++ kind ∷ []
turned_in list kind depth byte some within same =
    let was : FrameKind = kind_of (get_or list (depth - 1) 0) in
    let last = last_innermost (kinds (take depth list)) was (sym (innermost_taken list depth some within)) in
    turned list last.0 was kind depth byte some within last.1 same ∙
    ap (λ outer. outer ++ kind ∷ []) (sym (ap without_innermost last.1 ∙ without_innermost-push last.0 was))
