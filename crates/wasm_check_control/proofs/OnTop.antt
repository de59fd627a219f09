-- Operands that stay on the stack: each by its depth, and several of certain types.
use Rattle.std.proofs.Common.{◌≡◌, ℕ, zero, suc, ◌+◌, ◌-◌, ◌<◌, ◌≤◌, Bool, true, false, if◌then◌else◌, List, [], ◌∷◌, length, map, take, drop, reverse, get_or, Option, Some, None, refl, sym, ap, ◌∙◌, arith, add-one}
use Rattle.std.specs.Prelude.{is_some}
use Rattle.std.specs.Option.{option_map}
use Rattle.std.proofs.lemmas.List.{get_or-map, length-map, get_or-reverse, length-reverse}
use Rattle.std.proofs.Math.Seq.{drop-cons}
use Rattle.wasm_below.specs.declared.types.ValType.{ValType}
use Rattle.wasm_typing.specs.declared.value_type.ValueType.{ValueType}
use Rattle.wasm_typing.specs.Types.{Stack, value_type}
use Rattle.wasm_typing.specs.Matching.{TypeOrder, matches}
use Rattle.wasm_typing.specs.Rules.{at}
use Rattle.wasm_typing.specs.Checking.{state, pop, all_match}
use Rattle.wasm_typing.specs.Steps.{with_now}
use Rattle.wasm_typing.specs.Steps as steps
use Rattle.wasm_check_control.specs.Environment.{stack_of}
use Rattle.wasm_check_control.specs.Segments.{segments, floors_of, innermost}
use Rattle.wasm_check_control.specs.State.{frame_of, frames_with, frames_of, taken}
use Rattle.wasm_check_control.specs.declared.frame.Frame.{Frame}

at_taken : (k : ℕ) (ops : Stack) (d : ℕ) (x : ValueType) → d < k → k ≤ length ops → at (take k ops) d ≡ Some (get_or ops d x)
at_taken zero ops d x p q = absurd (omega (arith, p))
at_taken (suc k) [] d x p q = absurd (omega (arith, q))
at_taken (suc k) (v ∷ ops) zero x p q = refl
at_taken (suc k) (v ∷ ops) (suc d) x p q = at_taken k ops d x (omega (arith, p)) (omega (arith, q))

at_past : (k : ℕ) (ops : Stack) (d : ℕ) → k ≤ d → at (take k ops) d ≡ None
at_past zero ops d p = refl
at_past (suc k) [] d p = refl
at_past (suc k) (v ∷ ops) zero p = absurd (omega (arith, p))
at_past (suc k) (v ∷ ops) (suc d) p = at_past k ops d (omega (arith, p))

-- The operand at a depth, if there is a highest floor.
module _ (o : Option ℕ) (below : List ℕ) (h : ℕ) (there : o ≡ Some h) (xs : Stack) (old : List Stack) (is : segments (floors_of o below) (reverse xs) ≡ old) where
  innermost_is : innermost old ≡ take (length (reverse xs) - h) (reverse xs)
  innermost_is = ap innermost (sym is ∙ ap (λ p. segments (floors_of p below) (reverse xs)) there)

  pub peek_there : (d : ℕ) (x : ValueType) → d < length xs - h → Some (get_or xs (length xs - 1 - d) x) ≡ at (innermost old) d
  peek_there d x p =
      let n : length (reverse xs) ≡ length xs = length-reverse xs in
      sym (ap (λ s. at s d) innermost_is ∙ at_taken (length (reverse xs) - h) (reverse xs) d x (omega (arith, n, p)) (omega arith) ∙
      ap (λ v. Some v) (get_or-reverse xs d x (omega (arith, p))))

  pub peek_past : (d : ℕ) → length xs - h ≤ d → None ≡ at (innermost old) d
  peek_past d p =
      let n : length (reverse xs) ≡ length xs = length-reverse xs in
      sym (ap (λ s. at s d) innermost_is ∙ at_past (length (reverse xs) - h) (reverse xs) d (omega (arith, n, p)))

-- Without a floor there is no segment.
pub peek_nowhere : (o : Option ℕ) (below : List ℕ) (xs : Stack) (old : List Stack) (d : ℕ) → o ≡ None → segments (floors_of o below) (reverse xs) ≡ old → None ≡ at (innermost old) d
peek_nowhere o below xs old d e is = ap (λ s. at (innermost s) d) (ap (λ p. segments (floors_of p below) (reverse xs)) (sym e) ∙ is)

-- The last types first.
pub next_type : (types : List ValType) (i : ℕ) (d : ValType) → i < length types →
    drop i (stack_of types) ≡ value_type (get_or types (length types - 1 - i) d) ∷ drop (suc i) (stack_of types)
next_type types i d p =
    let n = length-reverse (map value_type types) in
    let m = length-map types value_type in
    drop-cons (stack_of types) i (value_type d) (omega (arith, n, m, p)) ∙
    ap (λ v. v ∷ drop (suc i) (stack_of types)) (get_or-reverse (map value_type types) i (value_type d) (omega (arith, m, p)) ∙
    ap (λ k. get_or (map value_type types) (k - 1 - i) (value_type d)) m ∙
    get_or-map value_type types (length types - 1 - i) d (value_type d) (omega (arith, p)))

pub stack_length : (types : List ValType) → length (stack_of types) ≡ length types
stack_length types = length-reverse (map value_type types) ∙ length-map types value_type

dropped_at : (ks : Stack) (i : ℕ) (k : ValueType) → Some k ≡ at ks i → drop i ks ≡ k ∷ drop (suc i) ks
dropped_at [] i k e = absurd (cc e)
dropped_at (v ∷ ks) zero k e = cc e
dropped_at (v ∷ ks) (suc i) k e = dropped_at ks i k e

dropped_none : (ks : Stack) (i : ℕ) → None ≡ at ks i → drop i ks ≡ []
dropped_none [] zero e = refl
dropped_none [] (suc i) e = refl
dropped_none (v ∷ ks) zero e = absurd (cc e)
dropped_none (v ∷ ks) (suc i) e = dropped_none ks i e

module _ (O : TypeOrder) where
  abbrev pub has : Stack → Stack → Bool → Bool
  has vs ks any = is_some (pop O vs ks any)

  from_none : (v : ValueType) (vs : Stack) (any : Bool) → any ≡ has (v ∷ vs) [] any
  from_none v [] true = refl
  from_none v (w ∷ vs) true = from_none w vs true
  from_none v vs false = refl

  -- No operand is left: in unreachable code, any are.
  pub has_none : (types : List ValType) (ks : Stack) (any : Bool) (i : ℕ) (d : ValType) → i < length types → None ≡ at ks i →
      has (drop i (stack_of types)) (drop i ks) any ≡ has (stack_of types) ks any → any ≡ has (stack_of types) ks any
  has_none types ks any i d p e h =
      from_none (value_type (get_or types (length types - 1 - i) d)) (drop (suc i) (stack_of types)) any ∙
      ap (λ vs. has vs [] any) (sym (next_type types i d p)) ∙ ap (λ s. has (drop i (stack_of types)) s any) (sym (dropped_none ks i e)) ∙ h

  matched : (v k : ValueType) (vs ks : Stack) (any test : Bool) → matches O k v ≡ test → has (v ∷ vs) (k ∷ ks) any ≡ (if test then has vs ks any else false)
  matched v k vs ks any test e = ap (λ b. is_some (if b then pop O vs ks any else None)) e ∙ go test
    where
      go : (b : Bool) → is_some (if b then pop O vs ks any else None) ≡ (if b then has vs ks any else false)
      go true = refl
      go false = refl

  -- One more operand is there, or another one.
  pub has_next : (types : List ValType) (ks : Stack) (any : Bool) (i : ℕ) (d : ValType) (k v : ValueType) (test : Bool) → i < length types → Some k ≡ at ks i →
      v ≡ value_type (get_or types (length types - 1 - i) d) → test ≡ matches O k v →
      has (drop i (stack_of types)) (drop i ks) any ≡ has (stack_of types) ks any →
      (if test then has (drop (i + 1) (stack_of types)) (drop (i + 1) ks) any else false) ≡ has (stack_of types) ks any
  has_next types ks any i d k v test p e is t h =
      ap (λ n. if test then has (drop n (stack_of types)) (drop n ks) any else false) (add-one i) ∙
      sym (matched v k (drop (suc i) (stack_of types)) (drop (suc i) ks) any test (sym t)) ∙
      ap (λ w. has (w ∷ drop (suc i) (stack_of types)) (k ∷ drop (suc i) ks) any) is ∙
      ap (λ vs. has vs (k ∷ drop (suc i) ks) any) (sym (next_type types i d p)) ∙ ap (λ s. has (drop i (stack_of types)) s any) (sym (dropped_at ks i k e)) ∙ h

  unchanged : {A B : Type 0} (f : A → B) (o : Option A) → is_some o ≡ is_some (option_map f o)
  unchanged f None = refl
  unchanged f (Some a) = refl

  pub has_taken : (current : Option Frame) (around : List Frame) (segs : List Stack) (old : List steps.Frame) (f : Frame) → current ≡ Some f →
      length (frames_of current around) ≡ length segs → frames_with (frames_of current around) segs ≡ old → (s : Stack) →
      has s (innermost segs) f.unreachable ≡ is_some (taken O s old)
  has_taken None around segs old f e n is s = absurd (cc e)
  has_taken (Some g) around [] old f e n is s = absurd (omega (arith, n))
  has_taken (Some g) around (ks ∷ segs) old f e n is s =
      let same : g ≡ f = cc e in
      ap (λ (x : Frame). has s ks x.unreachable) (sym same) ∙
      unchanged (λ rest. with_now (frame_of g ks) (state rest g.unreachable []) ∷ frames_with (reverse around) segs) (pop O s ks g.unreachable) ∙
      ap (λ o. is_some (taken O s o)) is

  pub nothing_taken : (current : Option Frame) (around : List Frame) (segs : List Stack) (old : List steps.Frame) → current ≡ None →
      frames_with (frames_of current around) segs ≡ old → (s : Stack) → false ≡ is_some (taken O s old)
  nothing_taken current around segs old e is s = ap (λ o. is_some (taken O s o)) (ap (λ c. frames_with (frames_of c around) segs) (sym e) ∙ is)

-- Two lists of types.
module _ (O : TypeOrder) where
  pub unequal_lengths : (a b : Stack) → (length a ≡ length b → ⊥) → false ≡ all_match O a b
  unequal_lengths [] [] n = absurd (n refl)
  unequal_lengths [] (v ∷ b) n = refl
  unequal_lengths (k ∷ a) [] n = refl
  unequal_lengths (k ∷ a) (v ∷ b) n = go (matches O k v) (unequal_lengths a b (λ e. n (ap suc e)))
    where
      go : (test : Bool) → false ≡ all_match O a b → false ≡ (if test then all_match O a b else false)
      go true e = e
      go false e = refl

  pub match_next : (types wanted : List ValType) (i : ℕ) (d x : ValType) (k v : ValueType) (test : Bool) → i < length types → length types ≡ length wanted →
      k ≡ value_type (get_or types (length types - 1 - i) d) → v ≡ value_type (get_or wanted (length types - 1 - i) x) → test ≡ matches O k v →
      all_match O (drop i (stack_of types)) (drop i (stack_of wanted)) ≡ all_match O (stack_of types) (stack_of wanted) →
      (if test then all_match O (drop (i + 1) (stack_of types)) (drop (i + 1) (stack_of wanted)) else false) ≡ all_match O (stack_of types) (stack_of wanted)
  match_next types wanted i d x k v test p n is_k is_v t h =
      let w : v ≡ value_type (get_or wanted (length wanted - 1 - i) x) = is_v ∙ ap (λ m. value_type (get_or wanted (m - 1 - i) x)) n in
      let a : drop i (stack_of types) ≡ k ∷ drop (suc i) (stack_of types) = next_type types i d p ∙ ap (λ x. x ∷ drop (suc i) (stack_of types)) (sym is_k) in
      let b : drop i (stack_of wanted) ≡ v ∷ drop (suc i) (stack_of wanted) = next_type wanted i x (omega (arith, p, n)) ∙ ap (λ y. y ∷ drop (suc i) (stack_of wanted)) (sym w) in
      ap (λ m. if test then all_match O (drop m (stack_of types)) (drop m (stack_of wanted)) else false) (add-one i) ∙
      ap (λ b. if b then all_match O (drop (suc i) (stack_of types)) (drop (suc i) (stack_of wanted)) else false) t ∙
      sym (ap (λ s. all_match O s (drop i (stack_of wanted))) a ∙ ap (λ s. all_match O (k ∷ drop (suc i) (stack_of types)) s) b) ∙ h
