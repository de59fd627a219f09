-- A rule that takes one operand above others.
use Rattle.std.proofs.Common.{◌≡◌, Bool, true, List, [], ◌∷◌, ◌++◌, Option, Some, None, refl, sym, ap, subst, ◌∙◌}
use Rattle.std.specs.Prelude.{Result, IfOk}
use Rattle.std.specs.Option.{option_map, option_and_then}
use Rattle.wasm_typing.specs.declared.value_type.ValueType.{ValueType}
use Rattle.wasm_typing.specs.Types.{Stack}
use Rattle.wasm_typing.specs.Matching.{TypeOrder}
use Rattle.wasm_typing.specs.Rules.{fixed, jumps}
use Rattle.wasm_typing.specs.Checking.{State, state, pop}
use Rattle.wasm_typing.specs.Steps.{Frame, with_now, receives}
use Rattle.wasm_typing.proofs.Stacks.{mapped}
use Rattle.wasm_check_control.specs.State.{Answers, by_rule, taken}
use Rattle.wasm_check_control.proofs.Taking.{pop-append}

unmapped : {A B : Type 0} (f : A → B) (o : Option A) → option_map f o ≡ None → o ≡ None
unmapped f None e = refl
unmapped f (Some a) e = absurd (cc e)

-- The frames after a rule that leaves these operands, if these are left after its operands are taken.
abbrev leaving : Frame → List Frame → Stack → Option Stack → Option (List Frame)
leaving f outer leaves o =
    option_map (λ (now : State). with_now f (state now.operands now.unreachable f.now.set) ∷ outer) (option_map (λ rest. state (leaves ++ rest) f.now.unreachable f.now.set) o)

pub with_top : (O : TypeOrder) (top : ValueType) (takes leaves : Stack) (old a : List Frame) → taken O (top ∷ []) old ≡ Some a →
    by_rule O (fixed (top ∷ takes) leaves) old ≡ by_rule O (fixed takes leaves) a
with_top O top takes leaves [] a e = absurd (cc e)
with_top O top takes leaves (f ∷ outer) a e =
    let m = mapped (λ rest. with_now f (state rest f.now.unreachable f.now.set) ∷ outer) (pop O (top ∷ []) f.now.operands f.now.unreachable) a e in
    ap (leaving f outer leaves) (pop-append O (top ∷ []) takes f.now.operands f.now.unreachable ∙ ap (option_and_then (λ r. pop O takes r f.now.unreachable)) m.1) ∙
    ap (by_rule O (fixed takes leaves)) m.2

pub no_top : (O : TypeOrder) (top : ValueType) (takes leaves : Stack) (old : List Frame) → taken O (top ∷ []) old ≡ None → by_rule O (fixed (top ∷ takes) leaves) old ≡ None
no_top O top takes leaves [] e = refl
no_top O top takes leaves (f ∷ outer) e =
    let n = unmapped (λ rest. with_now f (state rest f.now.unreachable f.now.set) ∷ outer) (pop O (top ∷ []) f.now.operands f.now.unreachable) e in
    ap (leaving f outer leaves) (pop-append O (top ∷ []) takes f.now.operands f.now.unreachable ∙ ap (option_and_then (λ r. pop O takes r f.now.unreachable)) n)

abbrev jumping : Frame → List Frame → Option Stack → Option (List Frame)
jumping f outer o =
    option_map (λ (now : State). with_now f (state now.operands now.unreachable f.now.set) ∷ outer) (option_map (λ (rest : Stack). state [] true f.now.set) o)

-- A rule that takes and leaves operands, in two steps.
pub taken_fixed : (O : TypeOrder) (takes leaves : Stack) (old : List Frame) → by_rule O (fixed takes leaves) old ≡ option_map (receives leaves) (taken O takes old)
taken_fixed O takes leaves [] = refl
taken_fixed O takes leaves (f ∷ outer) = go (pop O takes f.now.operands f.now.unreachable)
  where
    go : (o : Option Stack) → leaving f outer leaves o ≡ option_map (receives leaves) (option_map (λ rest. with_now f (state rest f.now.unreachable f.now.set) ∷ outer) o)
    go None = refl
    go (Some rest) = refl

-- The same for a rule that jumps.
pub with_jump : (O : TypeOrder) (top : ValueType) (takes : Stack) (old a : List Frame) → taken O (top ∷ []) old ≡ Some a → by_rule O (jumps (top ∷ takes)) old ≡ by_rule O (jumps takes) a
with_jump O top takes [] a e = absurd (cc e)
with_jump O top takes (f ∷ outer) a e =
    let m = mapped (λ rest. with_now f (state rest f.now.unreachable f.now.set) ∷ outer) (pop O (top ∷ []) f.now.operands f.now.unreachable) a e in
    ap (jumping f outer) (pop-append O (top ∷ []) takes f.now.operands f.now.unreachable ∙ ap (option_and_then (λ r. pop O takes r f.now.unreachable)) m.1) ∙
    ap (by_rule O (jumps takes)) m.2

pub no_jump : (O : TypeOrder) (top : ValueType) (takes : Stack) (old : List Frame) → taken O (top ∷ []) old ≡ None → by_rule O (jumps (top ∷ takes)) old ≡ None
no_jump O top takes [] e = refl
no_jump O top takes (f ∷ outer) e =
    let n = unmapped (λ rest. with_now f (state rest f.now.unreachable f.now.set) ∷ outer) (pop O (top ∷ []) f.now.operands f.now.unreachable) e in
    ap (jumping f outer) (pop-append O (top ∷ []) takes f.now.operands f.now.unreachable ∙ ap (option_and_then (λ r. pop O takes r f.now.unreachable)) n)

-- A result about equal next frames.
pub moved : {X : Type 0} (r : Result Bool X) (o p : Option (List Frame)) (new : List Frame) → p ≡ o →
    IfOk r (λ yes. Answers yes o new) → IfOk r (λ yes. Answers yes p new)
moved r o p new e h = subst (λ x. IfOk r (λ yes. Answers yes x new)) (sym e) h
