-- The type of a select.
use Rattle.std.proofs.Common.{◌≡◌, Bool, true, false, if◌then◌else◌, List, [], ◌∷◌, Option, Some, None, refl, sym, ap, ◌∙◌}
use Rattle.std.specs.Option.{option_map, option_and_then}
use Rattle.wasm_typing.specs.declared.value_type.ValueType.{ValueType}
use Rattle.wasm_typing.specs.declared.value_type.ValueType.TheVariants.{I32, I64, F32, F64, V128, Bottom, Ref}
use Rattle.wasm_typing.specs.declared.value_type.Heap.{Heap}
use Rattle.wasm_typing.specs.Types.{Stack}
use Rattle.wasm_typing.specs.Matching.{TypeOrder, null_matches, heap_matches}
use Rattle.wasm_typing.specs.Rules.{selects}
use Rattle.wasm_typing.specs.Checking.{State, state, pop, take_one, joined, if_number, select_of}
use Rattle.wasm_typing.specs.Steps.{Frame, with_now, receives}
use Rattle.wasm_check_control.specs.State.{by_rule, taken, took}
use Rattle.wasm_check_control.specs.Selects.{select_type}

-- no reference is the type of a select
no_reference : (n m : Bool) (h g : Heap) (first second : Bool) → option_and_then if_number (if first then Some (Ref m g) else (if second then Some (Ref n h) else None)) ≡ None
no_reference n m h g true second = refl
no_reference n m h g false true = refl
no_reference n m h g false false = refl

pub select_is : (O : TypeOrder) (x y : ValueType) → option_and_then if_number (joined O x y) ≡ select_type x y
select_is O Bottom y = refl
select_is O (Ref n h) (Ref m g) = no_reference n m h g (if null_matches n m then heap_matches O h g else false) (if null_matches m n then heap_matches O g h else false)
select_is O I32 I32 = refl
select_is O I32 I64 = refl
select_is O I32 F32 = refl
select_is O I32 F64 = refl
select_is O I32 V128 = refl
select_is O I32 Bottom = refl
select_is O I32 (Ref m g) = refl
select_is O I64 I32 = refl
select_is O I64 I64 = refl
select_is O I64 F32 = refl
select_is O I64 F64 = refl
select_is O I64 V128 = refl
select_is O I64 Bottom = refl
select_is O I64 (Ref m g) = refl
select_is O F32 I32 = refl
select_is O F32 I64 = refl
select_is O F32 F32 = refl
select_is O F32 F64 = refl
select_is O F32 V128 = refl
select_is O F32 Bottom = refl
select_is O F32 (Ref m g) = refl
select_is O F64 I32 = refl
select_is O F64 I64 = refl
select_is O F64 F32 = refl
select_is O F64 F64 = refl
select_is O F64 V128 = refl
select_is O F64 Bottom = refl
select_is O F64 (Ref m g) = refl
select_is O V128 I32 = refl
select_is O V128 I64 = refl
select_is O V128 F32 = refl
select_is O V128 F64 = refl
select_is O V128 V128 = refl
select_is O V128 Bottom = refl
select_is O V128 (Ref m g) = refl
select_is O (Ref n h) I32 = refl
select_is O (Ref n h) I64 = refl
select_is O (Ref n h) F32 = refl
select_is O (Ref n h) F64 = refl
select_is O (Ref n h) V128 = refl
select_is O (Ref n h) Bottom = refl

-- What the program does for a select: it takes the condition and two operands, and leaves one.
abbrev pub after_second : ValueType → ValueType × List Frame → Option (List Frame)
after_second second q = option_map (λ (t : ValueType). receives (t ∷ []) q.1) (select_type second q.0)

abbrev pub after_first : ValueType × List Frame → Option (List Frame)
after_first p = option_and_then (after_second p.0) (took p.1)

abbrev pub after_condition : List Frame → Option (List Frame)
after_condition frames = option_and_then after_first (took frames)

module _ (O : TypeOrder) (f : Frame) (outer : List Frame) where
  abbrev put : State → List Frame
  put now = with_now f (state now.operands now.unreachable f.now.set) ∷ outer

  abbrev left : Stack → List Frame
  left rest = with_now f (state rest f.now.unreachable f.now.set) ∷ outer

  fourth : (rest : Stack) (o : Option ValueType) →
      option_map put (option_map (λ s. state s f.now.unreachable f.now.set) (option_map (λ (v : ValueType). v ∷ rest) o)) ≡
      option_map (λ (t : ValueType). receives (t ∷ []) (left rest)) o
  fourth rest None = refl
  fourth rest (Some t) = refl

  third : (p : ValueType × Stack) (o : Option (ValueType × Stack)) →
      option_map put (option_map (λ s. state s f.now.unreachable f.now.set) (option_and_then (λ (q : ValueType × Stack).
      option_map (λ (v : ValueType). v ∷ q.1) (option_and_then if_number (joined O p.0 q.0))) o)) ≡
      option_and_then (after_second p.0) (option_map (λ (q : ValueType × Stack). (q.0, left q.1)) o)
  third p None = refl
  third p (Some q) =
      ap (λ o. option_map put (option_map (λ s. state s f.now.unreachable f.now.set) (option_map (λ (v : ValueType). v ∷ q.1) o))) (select_is O p.0 q.0) ∙
      fourth q.1 (select_type p.0 q.0)

  second : (o : Option (ValueType × Stack)) →
      option_map put (option_map (λ s. state s f.now.unreachable f.now.set) (option_and_then (λ (p : ValueType × Stack). option_and_then (λ (q : ValueType × Stack).
      option_map (λ (v : ValueType). v ∷ q.1) (option_and_then if_number (joined O p.0 q.0))) (take_one p.1 f.now.unreachable)) o)) ≡
      option_and_then after_first (option_map (λ (p : ValueType × Stack). (p.0, left p.1)) o)
  second None = refl
  second (Some p) = third p (take_one p.1 f.now.unreachable)

  first : (o : Option Stack) →
      option_map put (option_and_then (λ rest. option_map (λ s. state s f.now.unreachable f.now.set) (select_of O rest f.now.unreachable)) o) ≡
      option_and_then after_condition (option_map left o)
  first None = refl
  first (Some rest) = second (take_one rest f.now.unreachable)

pub selects_is : (O : TypeOrder) (frames : List Frame) → by_rule O selects frames ≡ option_and_then after_condition (taken O (I32 ∷ []) frames)
selects_is O [] = refl
selects_is O (f ∷ outer) = first O f outer (pop O (I32 ∷ []) f.now.operands f.now.unreachable)

pub no_first : (O : TypeOrder) (old a : List Frame) → taken O (I32 ∷ []) old ≡ Some a → took a ≡ None → by_rule O selects old ≡ None
no_first O old a e g = selects_is O old ∙ ap (option_and_then after_condition) e ∙ ap (option_and_then after_first) g

pub no_second : (O : TypeOrder) (old a b : List Frame) (v : ValueType) → taken O (I32 ∷ []) old ≡ Some a → took a ≡ Some (v, b) → took b ≡ None → by_rule O selects old ≡ None
no_second O old a b v e g h =
    selects_is O old ∙ ap (option_and_then after_condition) e ∙ ap (option_and_then after_first) g ∙ ap (option_and_then (after_second v)) h

pub selected : (O : TypeOrder) (old a b d : List Frame) (v u : ValueType) (o : Option ValueType) → taken O (I32 ∷ []) old ≡ Some a → took a ≡ Some (v, b) → took b ≡ Some (u, d) →
    o ≡ select_type v u → by_rule O selects old ≡ option_map (λ (t : ValueType). receives (t ∷ []) d) o
selected O old a b d v u o e g h k =
    selects_is O old ∙ ap (option_and_then after_condition) e ∙ ap (option_and_then after_first) g ∙ ap (option_and_then (after_second v)) h ∙
    ap (option_map (λ (t : ValueType). receives (t ∷ []) d)) (sym k)
