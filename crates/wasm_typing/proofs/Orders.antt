-- Matching of heap types and value types is a preorder, and the tests decide it.
use Rattle.std.proofs.Common.{◌≡◌, ◌≢◌, ℕ, zero, suc, Bool, true, false, if◌then◌else◌, List, [], ◌∷◌, Option, Some, None, refl, sym, ap, subst, ◌∙◌}
use Rattle.std.proofs.lemmas.Bool.{eq-eqb, eqb-true}
use Rattle.wasm_below.specs.declared.types.AbstractHeapType.{AbstractHeapType}
use Rattle.wasm_below.specs.declared.types.AbstractHeapType.TheVariants as ty
use Rattle.wasm_below.specs.declared.types.HeapType.{HeapType}
use Rattle.wasm_below.specs.declared.types.HeapType.TheVariants as heap_type
use Rattle.wasm_typing.specs.declared.value_type.ValueType.{ValueType}
use Rattle.wasm_typing.specs.declared.value_type.ValueType.TheVariants.{I32, I64, F32, F64, V128, Bottom, Ref}
use Rattle.wasm_typing.specs.declared.value_type.Heap.{Heap}
use Rattle.wasm_typing.specs.declared.value_type.Heap.TheVariants.{Known, Unknown}
use Rattle.wasm_typing.specs.Matching.{CompositeKind, of_function, of_struct, of_array, TypeOrder, IsOrder, abstract_of_kind, abstract, defined, HeapMatches, heap_reflexive, heap_transitive, eq_any, i31_eq, struct_eq, array_eq, by_kind, declared, none_matches, nofunc_matches, noextern_matches, noexn_matches, bottom_heap, null_matches, Matches, reflexive, by_reference, bottom_value, abstract_matches, is_least, is_least_of, kind_matches, same_flag, heap_type_matches, heap_matches, matches}
use Rattle.wasm_typing.specs.Rules.{at}

pub both_true : (x y : Bool) → (if x then y else false) ≡ true → (x ≡ true) × (y ≡ true)
both_true true y e = (refl, e)
both_true false y e = absurd (cc e)

pub both_are : (x y : Bool) → x ≡ true → y ≡ true → (if x then y else false) ≡ true
both_are true y e f = f
both_are false y e f = absurd (cc e)

-- A test holds of every abstract heap type if it holds along this list.
abbrev abstract_types : List AbstractHeapType
abstract_types = ty.Func ∷ ty.Extern ∷ ty.Any ∷ ty.None ∷ ty.NoExtern ∷ ty.NoFunc ∷ ty.Eq ∷ ty.Struct ∷ ty.Array ∷ ty.I31 ∷ ty.Exn ∷ ty.NoExn ∷ ty.Cont ∷ ty.NoCont ∷ []

abbrev all : (AbstractHeapType → Bool) → List AbstractHeapType → Bool
all p [] = true
all p (x ∷ xs) = if p x then all p xs else false

all_at : (p : AbstractHeapType → Bool) (xs : List AbstractHeapType) (n : ℕ) (x : AbstractHeapType) → all p xs ≡ true → at xs n ≡ Some x → p x ≡ true
all_at p [] n x e f = absurd (cc f)
all_at p (y ∷ xs) zero x e f = ap p (let g : x ≡ y = cc f in g) ∙ (both_true (p y) (all p xs) e).0
all_at p (y ∷ xs) (suc n) x e f = all_at p xs n x (both_true (p y) (all p xs) e).1 f

of_all : (p : AbstractHeapType → Bool) → all p abstract_types ≡ true → (x : AbstractHeapType) → p x ≡ true
of_all p e ty.Func = all_at p abstract_types 0 ty.Func e refl
of_all p e ty.Extern = all_at p abstract_types 1 ty.Extern e refl
of_all p e ty.Any = all_at p abstract_types 2 ty.Any e refl
of_all p e ty.None = all_at p abstract_types 3 ty.None e refl
of_all p e ty.NoExtern = all_at p abstract_types 4 ty.NoExtern e refl
of_all p e ty.NoFunc = all_at p abstract_types 5 ty.NoFunc e refl
of_all p e ty.Eq = all_at p abstract_types 6 ty.Eq e refl
of_all p e ty.Struct = all_at p abstract_types 7 ty.Struct e refl
of_all p e ty.Array = all_at p abstract_types 8 ty.Array e refl
of_all p e ty.I31 = all_at p abstract_types 9 ty.I31 e refl
of_all p e ty.Exn = all_at p abstract_types 10 ty.Exn e refl
of_all p e ty.NoExn = all_at p abstract_types 11 ty.NoExn e refl
of_all p e ty.Cont = all_at p abstract_types 12 ty.Cont e refl
of_all p e ty.NoCont = all_at p abstract_types 13 ty.NoCont e refl

abbrev implied : Bool → Bool → Bool
implied x y = if x then y else true

follows : (x y : Bool) → implied x y ≡ true → x ≡ true → y ≡ true
follows true y e f = e
follows false y e f = absurd (cc f)

abstract_itself : (x : AbstractHeapType) → abstract_matches x x ≡ true
abstract_itself x = of_all (λ x. abstract_matches x x) refl x

abstract_through : (x y z : AbstractHeapType) → abstract_matches x y ≡ true → abstract_matches y z ≡ true → abstract_matches x z ≡ true
abstract_through x y z e f =
    follows (if abstract_matches x y then abstract_matches y z else false) (abstract_matches x z)
    (of_all (λ z. implied (if abstract_matches x y then abstract_matches y z else false) (abstract_matches x z))
    (of_all (λ y. all (λ z. implied (if abstract_matches x y then abstract_matches y z else false) (abstract_matches x z)) abstract_types)
    (of_all (λ x. all (λ y. all (λ z. implied (if abstract_matches x y then abstract_matches y z else false) (abstract_matches x z)) abstract_types) abstract_types) refl x) y) z)
    (both_are (abstract_matches x y) (abstract_matches y z) e f)

-- An abstract type matches the types of a kind if it matches one that does.
least_down : (x y : AbstractHeapType) (k : CompositeKind) → abstract_matches x y ≡ true → is_least y k ≡ true → is_least x k ≡ true
least_down x y k e f =
    follows (if abstract_matches x y then is_least y k else false) (is_least x k) (by_kinds k) (both_are (abstract_matches x y) (is_least y k) e f)
  where
    by_kinds : (k : CompositeKind) → implied (if abstract_matches x y then is_least y k else false) (is_least x k) ≡ true
    by_kinds of_function = of_all (λ y. implied (if abstract_matches x y then is_least y of_function else false) (is_least x of_function))
        (of_all (λ x. all (λ y. implied (if abstract_matches x y then is_least y of_function else false) (is_least x of_function)) abstract_types) refl x) y
    by_kinds of_struct = of_all (λ y. implied (if abstract_matches x y then is_least y of_struct else false) (is_least x of_struct))
        (of_all (λ x. all (λ y. implied (if abstract_matches x y then is_least y of_struct else false) (is_least x of_struct)) abstract_types) refl x) y
    by_kinds of_array = of_all (λ y. implied (if abstract_matches x y then is_least y of_array else false) (is_least x of_array))
        (of_all (λ x. all (λ y. implied (if abstract_matches x y then is_least y of_array else false) (is_least x of_array)) abstract_types) refl x) y

-- It matches what the kind matches.
least_up : (x : AbstractHeapType) (k : CompositeKind) (y : AbstractHeapType) → is_least x k ≡ true → abstract_matches (abstract_of_kind k) y ≡ true → abstract_matches x y ≡ true
least_up x k y e f =
    follows (if is_least x k then abstract_matches (abstract_of_kind k) y else false) (abstract_matches x y) (by_kinds k)
    (both_are (is_least x k) (abstract_matches (abstract_of_kind k) y) e f)
  where
    by_kinds : (k : CompositeKind) → implied (if is_least x k then abstract_matches (abstract_of_kind k) y else false) (abstract_matches x y) ≡ true
    by_kinds of_function = of_all (λ y. implied (if is_least x of_function then abstract_matches ty.Func y else false) (abstract_matches x y))
        (of_all (λ x. all (λ y. implied (if is_least x of_function then abstract_matches ty.Func y else false) (abstract_matches x y)) abstract_types) refl x) y
    by_kinds of_struct = of_all (λ y. implied (if is_least x of_struct then abstract_matches ty.Struct y else false) (abstract_matches x y))
        (of_all (λ x. all (λ y. implied (if is_least x of_struct then abstract_matches ty.Struct y else false) (abstract_matches x y)) abstract_types) refl x) y
    by_kinds of_array = of_all (λ y. implied (if is_least x of_array then abstract_matches ty.Array y else false) (abstract_matches x y))
        (of_all (λ x. all (λ y. implied (if is_least x of_array then abstract_matches ty.Array y else false) (abstract_matches x y)) abstract_types) refl x) y

-- No type of a kind matches a type below a kind.
never : (k m : CompositeKind) (y : AbstractHeapType) → abstract_matches (abstract_of_kind k) y ≡ true → is_least y m ≡ true → ⊥
never of_function of_function y e f = cc (follows (if abstract_matches ty.Func y then is_least y of_function else false) false (of_all (λ y. implied (if abstract_matches ty.Func y then is_least y of_function else false) false) refl y) (both_are (abstract_matches ty.Func y) (is_least y of_function) e f))
never of_function of_struct y e f = cc (follows (if abstract_matches ty.Func y then is_least y of_struct else false) false (of_all (λ y. implied (if abstract_matches ty.Func y then is_least y of_struct else false) false) refl y) (both_are (abstract_matches ty.Func y) (is_least y of_struct) e f))
never of_function of_array y e f = cc (follows (if abstract_matches ty.Func y then is_least y of_array else false) false (of_all (λ y. implied (if abstract_matches ty.Func y then is_least y of_array else false) false) refl y) (both_are (abstract_matches ty.Func y) (is_least y of_array) e f))
never of_struct of_function y e f = cc (follows (if abstract_matches ty.Struct y then is_least y of_function else false) false (of_all (λ y. implied (if abstract_matches ty.Struct y then is_least y of_function else false) false) refl y) (both_are (abstract_matches ty.Struct y) (is_least y of_function) e f))
never of_struct of_struct y e f = cc (follows (if abstract_matches ty.Struct y then is_least y of_struct else false) false (of_all (λ y. implied (if abstract_matches ty.Struct y then is_least y of_struct else false) false) refl y) (both_are (abstract_matches ty.Struct y) (is_least y of_struct) e f))
never of_struct of_array y e f = cc (follows (if abstract_matches ty.Struct y then is_least y of_array else false) false (of_all (λ y. implied (if abstract_matches ty.Struct y then is_least y of_array else false) false) refl y) (both_are (abstract_matches ty.Struct y) (is_least y of_array) e f))
never of_array of_function y e f = cc (follows (if abstract_matches ty.Array y then is_least y of_function else false) false (of_all (λ y. implied (if abstract_matches ty.Array y then is_least y of_function else false) false) refl y) (both_are (abstract_matches ty.Array y) (is_least y of_function) e f))
never of_array of_struct y e f = cc (follows (if abstract_matches ty.Array y then is_least y of_struct else false) false (of_all (λ y. implied (if abstract_matches ty.Array y then is_least y of_struct else false) false) refl y) (both_are (abstract_matches ty.Array y) (is_least y of_struct) e f))
never of_array of_array y e f = cc (follows (if abstract_matches ty.Array y then is_least y of_array else false) false (of_all (λ y. implied (if abstract_matches ty.Array y then is_least y of_array else false) false) refl y) (both_are (abstract_matches ty.Array y) (is_least y of_array) e f))

-- The same of the kind at an index, if it has one.
least_of_down : (x y : AbstractHeapType) (o : Option CompositeKind) → abstract_matches x y ≡ true → is_least_of y o ≡ true → is_least_of x o ≡ true
least_of_down x y None e f = absurd (cc f)
least_of_down x y (Some k) e f = least_down x y k e f

least_of_up : (x y : AbstractHeapType) (o : Option CompositeKind) → is_least_of x o ≡ true → kind_matches o y ≡ true → abstract_matches x y ≡ true
least_of_up x y None e f = absurd (cc f)
least_of_up x y (Some k) e f = least_up x k y e f

kind_through : (o : Option CompositeKind) (y z : AbstractHeapType) → kind_matches o y ≡ true → abstract_matches y z ≡ true → kind_matches o z ≡ true
kind_through None y z e f = absurd (cc e)
kind_through (Some k) y z e f = abstract_through (abstract_of_kind k) y z e f

never_of : (o p : Option CompositeKind) (y : AbstractHeapType) → kind_matches o y ≡ true → is_least_of y p ≡ true → ⊥
never_of None p y e f = cc e
never_of (Some k) None y e f = cc f
never_of (Some k) (Some m) y e f = never k m y e f

flag_itself : (s : Bool) → same_flag s s ≡ true
flag_itself true = refl
flag_itself false = refl

flagged : (s b : Bool) → b ≡ true → (if same_flag s s then b else false) ≡ true
flagged s b e = both_are (same_flag s s) b (flag_itself s) e

flag_through : (s r q : Bool) → same_flag s r ≡ true → same_flag r q ≡ true → same_flag s q ≡ true
flag_through true true q e f = f
flag_through false false q e f = f
flag_through true false q e f = absurd (cc e)
flag_through false true q e f = absurd (cc e)

pub null_itself : (n : Bool) → null_matches n n ≡ true
null_itself true = refl
null_itself false = refl

pub null_any : (n : Bool) → null_matches n true ≡ true
null_any true = refl
null_any false = refl

null_through : (n m k : Bool) → null_matches n m ≡ true → null_matches m k ≡ true → null_matches n k ≡ true
null_through false m k e f = refl
null_through true true k e f = f
null_through true false k e f = absurd (cc e)

module _ (O : TypeOrder) (ok : IsOrder O) where
  type_itself : (h : HeapType) → heap_type_matches O h h ≡ true
  type_itself (heap_type.Abstract s x) = flagged s (abstract_matches x x) (abstract_itself x)
  type_itself (heap_type.Concrete i) = ok.itself i
  type_itself (heap_type.Exact i) = eq-eqb i i refl

  type_through : (h g k : HeapType) → heap_type_matches O h g ≡ true → heap_type_matches O g k ≡ true → heap_type_matches O h k ≡ true
  type_through (heap_type.Abstract s x) (heap_type.Abstract r y) (heap_type.Abstract q z) e f =
      let a = both_true (same_flag s r) (abstract_matches x y) e in
      let b = both_true (same_flag r q) (abstract_matches y z) f in
      both_are (same_flag s q) (abstract_matches x z) (flag_through s r q a.0 b.0) (abstract_through x y z a.1 b.1)
  type_through (heap_type.Abstract s x) (heap_type.Abstract true y) (heap_type.Concrete k) e f = absurd (cc f)
  type_through (heap_type.Abstract true x) (heap_type.Abstract false y) (heap_type.Concrete k) e f = absurd (cc e)
  type_through (heap_type.Abstract false x) (heap_type.Abstract false y) (heap_type.Concrete k) e f = least_of_down x y (O.kind k) e f
  type_through (heap_type.Abstract false x) (heap_type.Concrete m) (heap_type.Abstract false z) e f = least_of_up x z (O.kind m) e f
  type_through (heap_type.Abstract false x) (heap_type.Concrete m) (heap_type.Concrete k) e f = ap (is_least_of x) (sym (ok.kinds m k f)) ∙ e
  type_through (heap_type.Concrete n) (heap_type.Abstract false y) (heap_type.Abstract false z) e f = kind_through (O.kind n) y z e f
  type_through (heap_type.Concrete n) (heap_type.Abstract false y) (heap_type.Concrete k) e f = absurd (never_of (O.kind n) (O.kind k) y e f)
  type_through (heap_type.Concrete n) (heap_type.Concrete m) (heap_type.Abstract false z) e f = ap (λ o. kind_matches o z) (ok.kinds n m e) ∙ f
  type_through (heap_type.Concrete n) (heap_type.Concrete m) (heap_type.Concrete k) e f = ok.through n m k e f
  type_through (heap_type.Exact n) (heap_type.Exact m) (heap_type.Exact k) e f = eq-eqb n k (eqb-true n m e ∙ eqb-true m k f)
  type_through _ _ _ e f = absurd (cc (e, f))

  heap_itself : (h : Heap) → heap_matches O h h ≡ true
  heap_itself Unknown = refl
  heap_itself (Known h) = type_itself h

  heap_through : (h g k : Heap) → heap_matches O h g ≡ true → heap_matches O g k ≡ true → heap_matches O h k ≡ true
  heap_through Unknown g k e f = refl
  heap_through (Known h) (Known g) (Known k) e f = type_through h g k e f
  heap_through (Known h) Unknown k e f = absurd (cc e)
  heap_through (Known h) (Known g) Unknown e f = absurd (cc f)

  -- What the test accepts matches.
  not_bottom : (h : HeapType) → Known h ≢ Unknown
  not_bottom h = λ e. cc e

  i31_any : (s : Bool) → HeapMatches O (abstract s ty.I31) (abstract s ty.Any)
  i31_any s = heap_transitive i31_eq eq_any

  struct_any : (s : Bool) → HeapMatches O (abstract s ty.Struct) (abstract s ty.Any)
  struct_any s = heap_transitive struct_eq eq_any

  array_any : (s : Bool) → HeapMatches O (abstract s ty.Array) (abstract s ty.Any)
  array_any s = heap_transitive array_eq eq_any

  abstract_sound : (s : Bool) (x y : AbstractHeapType) → abstract_matches x y ≡ true → HeapMatches O (abstract s x) (abstract s y)
  abstract_sound s ty.Eq ty.Any e = eq_any
  abstract_sound s ty.I31 ty.Eq e = i31_eq
  abstract_sound s ty.I31 ty.Any e = i31_any s
  abstract_sound s ty.Struct ty.Eq e = struct_eq
  abstract_sound s ty.Struct ty.Any e = struct_any s
  abstract_sound s ty.Array ty.Eq e = array_eq
  abstract_sound s ty.Array ty.Any e = array_any s
  abstract_sound s ty.None ty.Any e = none_matches (not_bottom (heap_type.Abstract s ty.Any)) heap_reflexive
  abstract_sound s ty.None ty.Eq e = none_matches (not_bottom (heap_type.Abstract s ty.Eq)) eq_any
  abstract_sound s ty.None ty.I31 e = none_matches (not_bottom (heap_type.Abstract s ty.I31)) (i31_any s)
  abstract_sound s ty.None ty.Struct e = none_matches (not_bottom (heap_type.Abstract s ty.Struct)) (struct_any s)
  abstract_sound s ty.None ty.Array e = none_matches (not_bottom (heap_type.Abstract s ty.Array)) (array_any s)
  abstract_sound s ty.NoFunc ty.Func e = nofunc_matches (not_bottom (heap_type.Abstract s ty.Func)) heap_reflexive
  abstract_sound s ty.NoExtern ty.Extern e = noextern_matches (not_bottom (heap_type.Abstract s ty.Extern)) heap_reflexive
  abstract_sound s ty.NoExn ty.Exn e = noexn_matches (not_bottom (heap_type.Abstract s ty.Exn)) heap_reflexive
  abstract_sound s ty.Func ty.Func e = heap_reflexive
  abstract_sound s ty.Extern ty.Extern e = heap_reflexive
  abstract_sound s ty.Any ty.Any e = heap_reflexive
  abstract_sound s ty.None ty.None e = heap_reflexive
  abstract_sound s ty.NoExtern ty.NoExtern e = heap_reflexive
  abstract_sound s ty.NoFunc ty.NoFunc e = heap_reflexive
  abstract_sound s ty.Eq ty.Eq e = heap_reflexive
  abstract_sound s ty.Struct ty.Struct e = heap_reflexive
  abstract_sound s ty.Array ty.Array e = heap_reflexive
  abstract_sound s ty.I31 ty.I31 e = heap_reflexive
  abstract_sound s ty.Exn ty.Exn e = heap_reflexive
  abstract_sound s ty.NoExn ty.NoExn e = heap_reflexive
  abstract_sound s ty.Cont ty.Cont e = heap_reflexive
  abstract_sound s ty.NoCont ty.NoCont e = heap_reflexive
  abstract_sound s _ _ e = absurd (cc e)

  kind_sound : (i : ℕ) (o : Option CompositeKind) (y : AbstractHeapType) → O.kind i ≡ o → kind_matches o y ≡ true → HeapMatches O (defined i) (abstract false y)
  kind_sound i None y e f = absurd (cc f)
  kind_sound i (Some k) y e f = heap_transitive (by_kind e) (abstract_sound false (abstract_of_kind k) y f)

  least_sound : (i : ℕ) (o : Option CompositeKind) (x : AbstractHeapType) → O.kind i ≡ o → is_least_of x o ≡ true → HeapMatches O (abstract false x) (defined i)
  least_sound i (Some of_struct) ty.None e f = none_matches (not_bottom (heap_type.Concrete i)) (heap_transitive (by_kind e) (struct_any false))
  least_sound i (Some of_array) ty.None e f = none_matches (not_bottom (heap_type.Concrete i)) (heap_transitive (by_kind e) (array_any false))
  least_sound i (Some of_function) ty.NoFunc e f = nofunc_matches (not_bottom (heap_type.Concrete i)) (by_kind e)
  least_sound i _ _ e f = absurd (cc f)

  flag_sound : (s r : Bool) (x y : AbstractHeapType) → same_flag s r ≡ true → abstract_matches x y ≡ true → HeapMatches O (abstract s x) (abstract r y)
  flag_sound true true x y e f = abstract_sound true x y f
  flag_sound false false x y e f = abstract_sound false x y f
  flag_sound true false x y e f = absurd (cc e)
  flag_sound false true x y e f = absurd (cc e)

  type_sound : (h g : HeapType) → heap_type_matches O h g ≡ true → HeapMatches O (Known h) (Known g)
  type_sound (heap_type.Abstract s x) (heap_type.Abstract r y) e =
      let a = both_true (same_flag s r) (abstract_matches x y) e in
      flag_sound s r x y a.0 a.1
  type_sound (heap_type.Abstract false x) (heap_type.Concrete j) e = least_sound j (O.kind j) x refl e
  type_sound (heap_type.Concrete i) (heap_type.Abstract false y) e = kind_sound i (O.kind i) y refl e
  type_sound (heap_type.Concrete i) (heap_type.Concrete j) e = declared e
  type_sound (heap_type.Exact i) (heap_type.Exact j) e =
      subst (λ k. HeapMatches O (Known (heap_type.Exact i)) (Known (heap_type.Exact k))) (eqb-true i j e) heap_reflexive
  type_sound _ _ e = absurd (cc e)

  pub heap_sound : (h g : Heap) → heap_matches O h g ≡ true → HeapMatches O h g
  heap_sound Unknown g e = bottom_heap
  heap_sound (Known h) (Known g) e = type_sound h g e
  heap_sound (Known h) Unknown e = absurd (cc e)

  -- The test accepts what matches.
  below : (least top : AbstractHeapType) → ((x : AbstractHeapType) → abstract_matches x top ≡ true → abstract_matches least x ≡ true) →
      ((k : CompositeKind) → abstract_matches (abstract_of_kind k) top ≡ true → is_least least k ≡ true) →
      (s : Bool) (h : Heap) → h ≢ Unknown → heap_matches O h (abstract s top) ≡ true → heap_matches O (abstract s least) h ≡ true
  below least top low kinds s Unknown n e = absurd (n refl)
  below least top low kinds s (Known (heap_type.Abstract r x)) n e =
      let a = both_true (same_flag r s) (abstract_matches x top) e in
      both_are (same_flag s r) (abstract_matches least x) (swapped r s a.0) (low x a.1)
    where
      swapped : (r s : Bool) → same_flag r s ≡ true → same_flag s r ≡ true
      swapped true true e = refl
      swapped false false e = refl
      swapped true false e = absurd (cc e)
      swapped false true e = absurd (cc e)
  below least top low kinds false (Known (heap_type.Concrete j)) n e = by_option (O.kind j) e
    where
      by_option : (o : Option CompositeKind) → kind_matches o top ≡ true → is_least_of least o ≡ true
      by_option None e = absurd (cc e)
      by_option (Some k) e = kinds k e
  below least top low kinds _ _ n e = absurd (cc e)

  below_any : (x : AbstractHeapType) → abstract_matches x ty.Any ≡ true → abstract_matches ty.None x ≡ true
  below_any x e = follows (abstract_matches x ty.Any) (abstract_matches ty.None x) (of_all (λ x. implied (abstract_matches x ty.Any) (abstract_matches ty.None x)) refl x) e

  below_func : (x : AbstractHeapType) → abstract_matches x ty.Func ≡ true → abstract_matches ty.NoFunc x ≡ true
  below_func x e = follows (abstract_matches x ty.Func) (abstract_matches ty.NoFunc x) (of_all (λ x. implied (abstract_matches x ty.Func) (abstract_matches ty.NoFunc x)) refl x) e

  below_extern : (x : AbstractHeapType) → abstract_matches x ty.Extern ≡ true → abstract_matches ty.NoExtern x ≡ true
  below_extern x e = follows (abstract_matches x ty.Extern) (abstract_matches ty.NoExtern x) (of_all (λ x. implied (abstract_matches x ty.Extern) (abstract_matches ty.NoExtern x)) refl x) e

  below_exn : (x : AbstractHeapType) → abstract_matches x ty.Exn ≡ true → abstract_matches ty.NoExn x ≡ true
  below_exn x e = follows (abstract_matches x ty.Exn) (abstract_matches ty.NoExn x) (of_all (λ x. implied (abstract_matches x ty.Exn) (abstract_matches ty.NoExn x)) refl x) e

  kinds_any : (k : CompositeKind) → abstract_matches (abstract_of_kind k) ty.Any ≡ true → is_least ty.None k ≡ true
  kinds_any of_function e = absurd (cc e)
  kinds_any of_struct e = refl
  kinds_any of_array e = refl

  kinds_func : (k : CompositeKind) → abstract_matches (abstract_of_kind k) ty.Func ≡ true → is_least ty.NoFunc k ≡ true
  kinds_func of_function e = refl
  kinds_func of_struct e = absurd (cc e)
  kinds_func of_array e = absurd (cc e)

  kinds_extern : (k : CompositeKind) → abstract_matches (abstract_of_kind k) ty.Extern ≡ true → is_least ty.NoExtern k ≡ true
  kinds_extern of_function e = absurd (cc e)
  kinds_extern of_struct e = absurd (cc e)
  kinds_extern of_array e = absurd (cc e)

  kinds_exn : (k : CompositeKind) → abstract_matches (abstract_of_kind k) ty.Exn ≡ true → is_least ty.NoExn k ≡ true
  kinds_exn of_function e = absurd (cc e)
  kinds_exn of_struct e = absurd (cc e)
  kinds_exn of_array e = absurd (cc e)

  pub heap_complete : {h g : Heap} → HeapMatches O h g → heap_matches O h g ≡ true
  heap_complete {h} heap_reflexive = heap_itself h
  heap_complete {h} {g} (heap_transitive {g = between} d e) = heap_through h between g (heap_complete d) (heap_complete e)
  heap_complete (eq_any {s = s}) = flagged s true refl
  heap_complete (i31_eq {s = s}) = flagged s true refl
  heap_complete (struct_eq {s = s}) = flagged s true refl
  heap_complete (array_eq {s = s}) = flagged s true refl
  heap_complete (by_kind {k = k} e) = ap (λ o. kind_matches o (abstract_of_kind k)) e ∙ abstract_itself (abstract_of_kind k)
  heap_complete (declared e) = e
  heap_complete (none_matches {s = s} {h = h} n d) = below ty.None ty.Any below_any kinds_any s h n (heap_complete d)
  heap_complete (nofunc_matches {s = s} {h = h} n d) = below ty.NoFunc ty.Func below_func kinds_func s h n (heap_complete d)
  heap_complete (noextern_matches {s = s} {h = h} n d) = below ty.NoExtern ty.Extern below_extern kinds_extern s h n (heap_complete d)
  heap_complete (noexn_matches {s = s} {h = h} n d) = below ty.NoExn ty.Exn below_exn kinds_exn s h n (heap_complete d)
  heap_complete bottom_heap = refl

  -- Value types.
  pub matches_test : (v w : ValueType) → matches O v w ≡ true → Matches O v w
  matches_test Bottom w e = bottom_value
  matches_test I32 I32 e = reflexive
  matches_test I64 I64 e = reflexive
  matches_test F32 F32 e = reflexive
  matches_test F64 F64 e = reflexive
  matches_test V128 V128 e = reflexive
  matches_test (Ref n h) (Ref m g) e = let a = both_true (null_matches n m) (heap_matches O h g) e in by_reference a.0 (heap_sound h g a.1)
  matches_test _ _ e = absurd (cc e)

  test_itself : (v : ValueType) → matches O v v ≡ true
  test_itself Bottom = refl
  test_itself I32 = refl
  test_itself I64 = refl
  test_itself F32 = refl
  test_itself F64 = refl
  test_itself V128 = refl
  test_itself (Ref n h) = both_are (null_matches n n) (heap_matches O h h) (null_itself n) (heap_itself h)

  pub test_matches : {v w : ValueType} → Matches O v w → matches O v w ≡ true
  test_matches {v} reflexive = test_itself v
  test_matches (by_reference {n = n} {m = m} {h = h} {g = g} e d) = both_are (null_matches n m) (heap_matches O h g) e (heap_complete d)
  test_matches bottom_value = refl

  pub matches_trans : (x y z : ValueType) → Matches O x y → Matches O y z → Matches O x z
  matches_trans x y z reflexive e = e
  matches_trans x y z bottom_value e = bottom_value
  matches_trans x y z d reflexive = d
  matches_trans x y z (by_reference {n = n} {m = m} {h = h} {g = g} e d) (by_reference {n = m2} {m = k} {h = g2} {g = i} f c) =
      by_reference (null_through n m k e f) (heap_transitive d c)
