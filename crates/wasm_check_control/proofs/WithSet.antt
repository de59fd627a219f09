-- The steps of the algorithm on frames with the locals that are set in them.
use Rattle.std.proofs.Common.{◌≡◌, ℕ, Bool, true, false, ◌||◌, if◌then◌else◌, List, [], ◌∷◌, ◌++◌, Option, Some, None, refl, sym, ap, ◌∙◌}
use Rattle.std.specs.Prelude.{Result, IfOk}
use Rattle.std.specs.Option.{option_map, option_and_then}
use Rattle.std.proofs.lemmas.List.{append-nil}
use Rattle.wasm_grammar.specs.Role.{Nest, Role, plain, opens, opens_if, turns_else, ends}
use Rattle.wasm_typing.specs.declared.value_type.ValueType.{ValueType}
use Rattle.wasm_typing.specs.declared.value_type.ValueType.TheVariants.{I32, Ref}
use Rattle.wasm_typing.specs.declared.value_type.Heap.{Heap}
use Rattle.wasm_typing.specs.Types.{Stack, FunctionType}
use Rattle.wasm_typing.specs.Matching.{TypeOrder}
use Rattle.wasm_typing.specs.Rules.{Rule, Context, is_ready, fixed, jumps, drops, selects, tests_null, makes_non_null, branches_on_null, converts, switches, invalid, Rules, is_member}
use Rattle.wasm_typing.specs.Checking.{State, state, unset, pop, take_one, take_ref, take_like, all_match, match_each, select_of, converted, closes, run_rule}
use Rattle.wasm_typing.specs.Steps.{Construct, of_nest, of_if, of_else, Frame, within, opened, with_now, entered, frame_label, labels_of, may_end, receives, turned, step, set_in}
use Rattle.wasm_check_control.specs.State.{Answers, around, outermost, all_set, by_rule, opens_by, turns_by, ends_by, step_by}
use Rattle.wasm_check_control.proofs.Steps.{step_is}
use Rattle.wasm_check_control.specs.SetLocals.{set_now, set_outside, set_also, set_in_else, with_set}

abbrev setting : List ℕ → State → State
setting set n = state n.operands n.unreachable set

-- A rule does not see which locals are set.
rule_sees_none : (O : TypeOrder) (r : Rule) (k : State) (set : List ℕ) → run_rule O r (setting set k) ≡ option_map (setting set) (run_rule O r k)
rule_sees_none O (fixed takes leaves) k set = go (pop O takes k.operands k.unreachable)
  where
    go : (o : Option Stack) → option_map (λ rest. state (leaves ++ rest) k.unreachable set) o ≡ option_map (setting set) (option_map (λ rest. state (leaves ++ rest) k.unreachable k.set) o)
    go None = refl
    go (Some rest) = refl
rule_sees_none O (jumps takes) k set = go (pop O takes k.operands k.unreachable)
  where
    go : (o : Option Stack) → option_map (λ (rest : Stack). state [] true set) o ≡ option_map (setting set) (option_map (λ (rest : Stack). state [] true k.set) o)
    go None = refl
    go (Some rest) = refl
rule_sees_none O drops k set = go (take_one k.operands k.unreachable)
  where
    go : (o : Option (ValueType × Stack)) → option_map (λ p. state p.1 k.unreachable set) o ≡ option_map (setting set) (option_map (λ p. state p.1 k.unreachable k.set) o)
    go None = refl
    go (Some p) = refl
rule_sees_none O selects k set = go (pop O (I32 ∷ []) k.operands k.unreachable)
  where
    one : (o : Option Stack) → option_map (λ s. state s k.unreachable set) o ≡ option_map (setting set) (option_map (λ s. state s k.unreachable k.set) o)
    one None = refl
    one (Some s) = refl

    go : (o : Option Stack) → option_and_then (λ rest. option_map (λ s. state s k.unreachable set) (select_of O rest k.unreachable)) o ≡
        option_map (setting set) (option_and_then (λ rest. option_map (λ s. state s k.unreachable k.set) (select_of O rest k.unreachable)) o)
    go None = refl
    go (Some rest) = one (select_of O rest k.unreachable)
rule_sees_none O tests_null k set = go (take_ref k.operands k.unreachable)
  where
    go : (o : Option (Heap × Stack)) → option_map (λ p. state (I32 ∷ p.1) k.unreachable set) o ≡ option_map (setting set) (option_map (λ p. state (I32 ∷ p.1) k.unreachable k.set) o)
    go None = refl
    go (Some p) = refl
rule_sees_none O makes_non_null k set = go (take_ref k.operands k.unreachable)
  where
    go : (o : Option (Heap × Stack)) → option_map (λ p. state (Ref false p.0 ∷ p.1) k.unreachable set) o ≡
        option_map (setting set) (option_map (λ p. state (Ref false p.0 ∷ p.1) k.unreachable k.set) o)
    go None = refl
    go (Some p) = refl
rule_sees_none O (branches_on_null s) k set = go (take_ref k.operands k.unreachable)
  where
    one : (h : Heap) (o : Option Stack) → option_map (λ rest. state (Ref false h ∷ (s ++ rest)) k.unreachable set) o ≡
        option_map (setting set) (option_map (λ rest. state (Ref false h ∷ (s ++ rest)) k.unreachable k.set) o)
    one h None = refl
    one h (Some rest) = refl

    go : (o : Option (Heap × Stack)) → option_and_then (λ p. option_map (λ rest. state (Ref false p.0 ∷ (s ++ rest)) k.unreachable set) (pop O s p.1 k.unreachable)) o ≡
        option_map (setting set) (option_and_then (λ p. option_map (λ rest. state (Ref false p.0 ∷ (s ++ rest)) k.unreachable k.set) (pop O s p.1 k.unreachable)) o)
    go None = refl
    go (Some p) = one p.0 (pop O s p.1 k.unreachable)
rule_sees_none O (converts h g) k set = go (take_one k.operands k.unreachable)
  where
    one : (below : Stack) (o : Option ValueType) → option_map (λ v. state (v ∷ below) k.unreachable set) o ≡ option_map (setting set) (option_map (λ v. state (v ∷ below) k.unreachable k.set) o)
    one below None = refl
    one below (Some v) = refl

    go : (o : Option (ValueType × Stack)) → option_and_then (λ p. option_map (λ v. state (v ∷ p.1) k.unreachable set) (converted O h g p.0)) o ≡
        option_map (setting set) (option_and_then (λ p. option_map (λ v. state (v ∷ p.1) k.unreachable k.set) (converted O h g p.0)) o)
    go None = refl
    go (Some p) = one p.1 (converted O h g p.0)
rule_sees_none O (switches others last) k set = go (pop O (I32 ∷ []) k.operands k.unreachable)
  where
    tested : (a b : Bool) → (if a then (if b then Some (state [] true set) else None) else None) ≡ option_map (setting set) (if a then (if b then Some (state [] true k.set) else None) else None)
    tested true true = refl
    tested true false = refl
    tested false b = refl

    one : (o : Option Stack) → option_and_then (λ vs. if all_match O vs last then (if match_each O vs others then Some (state [] true set) else None) else None) o ≡
        option_map (setting set) (option_and_then (λ vs. if all_match O vs last then (if match_each O vs others then Some (state [] true k.set) else None) else None) o)
    one None = refl
    one (Some vs) = tested (all_match O vs last) (match_each O vs others)

    go : (o : Option Stack) →
        option_and_then (λ rest. option_and_then (λ vs. if all_match O vs last then (if match_each O vs others then Some (state [] true set) else None) else None) (take_like last rest k.unreachable)) o ≡
        option_map (setting set)
        (option_and_then (λ rest. option_and_then (λ vs. if all_match O vs last then (if match_each O vs others then Some (state [] true k.set) else None) else None) (take_like last rest k.unreachable)) o)
    go None = refl
    go (Some rest) = one (take_like last rest k.unreachable)
rule_sees_none O invalid k set = refl

labels_with : (frames : List Frame) (sets : List (List ℕ)) → labels_of (with_set frames sets) ≡ labels_of frames
labels_with [] sets = refl
labels_with (f ∷ outer) sets = ap (λ ls. frame_label f.construct f.type ∷ ls) (labels_with outer (set_outside sets))

seen : (frames : List Frame) (sets : List (List ℕ)) → labels_of (with_set frames sets) ++ [] ≡ labels_of frames
seen frames sets = append-nil (labels_of (with_set frames sets)) ∙ labels_with frames sets

-- The frames after a rule, in which other locals are set.
after_rule : (f : Frame) (outer : List Frame) (sets new : List (List ℕ)) (set : List ℕ) → set ≡ set_now new → set_outside new ≡ set_outside sets → (o : Option State) →
    option_map (λ now. with_now (with_now f (setting (set_now sets) f.now)) now ∷ with_set outer (set_outside sets)) (option_map (setting set) (option_map (setting (set_now sets)) o)) ≡
    option_map (λ next. with_set next new) (option_map (λ (now : State). with_now f (state now.operands now.unreachable f.now.set) ∷ outer) o)
after_rule f outer sets new set a b None = refl
after_rule f outer sets new set a b (Some now) =
    ap (λ s. Some (with_now f (state now.operands now.unreachable s) ∷ with_set outer (set_outside sets))) a ∙
    ap (λ o. Some (with_now f (state now.operands now.unreachable (set_now new)) ∷ with_set outer o)) (sym b)

module _ {A : Type 0} (R : Rules A) where
  abbrev pub plainly : A → List Frame → Option (List Frame)
  plainly op frames = by_rule R.order (R.rule (labels_of frames) op) frames

  -- What is left of a plain operator after the test whether its local is set.
  ruled : (op : A) (f : Frame) (outer : List Frame) (sets new : List (List ℕ)) (set : List ℕ) → set ≡ set_now new → set_outside new ≡ set_outside sets →
      option_map (λ now. with_now (with_now f (setting (set_now sets) f.now)) now ∷ with_set outer (set_outside sets))
      (option_map (setting set) (run_rule R.order (R.rule (labels_of (with_set (f ∷ outer) sets) ++ []) op) (setting (set_now sets) f.now))) ≡
      option_map (λ next. with_set next new) (plainly op (f ∷ outer))
  ruled op f outer sets new set a b =
      ap (λ ls. option_map (λ now. with_now (with_now f (setting (set_now sets) f.now)) now ∷ with_set outer (set_outside sets))
      (option_map (setting set) (run_rule R.order (R.rule ls op) (setting (set_now sets) f.now)))) (seen (f ∷ outer) sets) ∙
      ap (λ o. option_map (λ now. with_now (with_now f (setting (set_now sets) f.now)) now ∷ with_set outer (set_outside sets)) (option_map (setting set) o))
      (rule_sees_none R.order (R.rule (labels_of (f ∷ outer)) op) f.now (set_now sets)) ∙
      after_rule f outer sets new set a b (run_rule R.order (R.rule (labels_of (f ∷ outer)) op) f.now)

  module _ (op : A) (f : Frame) (outer : List Frame) (sets : List (List ℕ)) where
    abbrev here : Context A
    here = within (outermost R) (with_set (f ∷ outer) sets)

    abbrev after_plain : Option ℕ → List ℕ → Option (List Frame)
    after_plain n xs =
        option_map (λ now. with_now (with_now f (setting (set_now sets) f.now)) now ∷ with_set outer (set_outside sets))
        (if is_ready here n (set_now sets)
        then option_map (setting (unset here xs (set_now sets) ++ set_now sets)) (run_rule R.order (R.rule (labels_of (with_set (f ∷ outer) sets) ++ []) op) (setting (set_now sets) f.now)) else None)

    after_plain_is : (n : Option ℕ) (xs : List ℕ) → R.needs op ≡ n → R.sets op ≡ xs → step (outermost R) (with_set (f ∷ outer) sets) (plain op) ≡ after_plain n xs
    after_plain_is n xs a b = ap (λ m. after_plain m (R.sets op)) a ∙ ap (after_plain n) b

    got : (x : ℕ) (test : Bool) → test ≡ (R.is_set x || is_member x (set_now sets)) →
        after_plain (Some x) [] ≡ (if test then option_map (λ next. with_set next sets) (plainly op (f ∷ outer)) else None)
    got x test e =
        ap (λ b. option_map (λ now. with_now (with_now f (setting (set_now sets) f.now)) now ∷ with_set outer (set_outside sets))
        (if b then option_map (setting (set_now sets)) (run_rule R.order (R.rule (labels_of (with_set (f ∷ outer) sets) ++ []) op) (setting (set_now sets) f.now)) else None)) (sym e) ∙ go test
      where
        go : (b : Bool) → option_map (λ now. with_now (with_now f (setting (set_now sets) f.now)) now ∷ with_set outer (set_outside sets))
            (if b then option_map (setting (set_now sets)) (run_rule R.order (R.rule (labels_of (with_set (f ∷ outer) sets) ++ []) op) (setting (set_now sets) f.now)) else None) ≡
            (if b then option_map (λ next. with_set next sets) (plainly op (f ∷ outer)) else None)
        go true = ruled op f outer sets sets (set_now sets) refl refl
        go false = refl

    abbrev setting_of : Bool → ℕ → List ℕ
    setting_of b x = (if b then [] else x ∷ []) ++ set_now sets

    set_is : (x : ℕ) (test : Bool) → test ≡ (R.is_set x || is_member x (set_now sets)) →
        after_plain None (x ∷ []) ≡ option_map (λ next. with_set next (if test then sets else set_also x sets)) (plainly op (f ∷ outer))
    set_is x test e =
        ap (λ b. option_map (λ now. with_now (with_now f (setting (set_now sets) f.now)) now ∷ with_set outer (set_outside sets))
        (option_map (setting (setting_of b x)) (run_rule R.order (R.rule (labels_of (with_set (f ∷ outer) sets) ++ []) op) (setting (set_now sets) f.now)))) (sym e) ∙ go test
      where
        go : (b : Bool) → option_map (λ now. with_now (with_now f (setting (set_now sets) f.now)) now ∷ with_set outer (set_outside sets))
            (option_map (setting (setting_of b x)) (run_rule R.order (R.rule (labels_of (with_set (f ∷ outer) sets) ++ []) op) (setting (set_now sets) f.now))) ≡
            option_map (λ next. with_set next (if b then sets else set_also x sets)) (plainly op (f ∷ outer))
        go true = ruled op f outer sets sets (set_now sets) refl refl
        go false = ruled op f outer sets (set_also x sets) (x ∷ set_now sets) refl refl

  -- The same rules if every local is set.
  abbrev pub if_set : List Frame → Role A → Option (List Frame)
  if_set frames role = step (outermost (all_set R.order R.rule R.type)) frames role

  stated : (frames : List Frame) (role : Role A) → step_by (all_set R.order R.rule R.type) frames role ≡ if_set frames role
  stated frames role = sym (step_is R.order R.rule R.type frames role)

  -- An operator that needs no local and sets none.
  pub plain_step : (op : A) (frames : List Frame) (sets : List (List ℕ)) → R.needs op ≡ None → R.sets op ≡ [] →
      step (outermost R) (with_set frames sets) (plain op) ≡ option_map (λ next. with_set next sets) (if_set frames (plain op))
  plain_step op [] sets a b = refl
  plain_step op (f ∷ outer) sets a b =
      after_plain_is op f outer sets None [] a b ∙ ruled op f outer sets sets (set_now sets) refl refl ∙
      ap (option_map (λ next. with_set next sets)) (stated (f ∷ outer) (plain op))

  -- An operator that needs a local: `test` is whether the local is set.
  pub get_step : (op : A) (frames : List Frame) (sets : List (List ℕ)) (x : ℕ) (test : Bool) → test ≡ (R.is_set x || is_member x (set_now sets)) → R.needs op ≡ Some x → R.sets op ≡ [] →
      step (outermost R) (with_set frames sets) (plain op) ≡ (if test then option_map (λ next. with_set next sets) (if_set frames (plain op)) else None)
  get_step op [] sets x true e a b = refl
  get_step op [] sets x false e a b = refl
  get_step op (f ∷ outer) sets x test e a b =
      after_plain_is op f outer sets (Some x) [] a b ∙ got op f outer sets x test e ∙
      ap (λ o. if test then option_map (λ next. with_set next sets) o else None) (stated (f ∷ outer) (plain op))

  -- An operator that sets a local.
  pub set_step : (op : A) (frames : List Frame) (sets : List (List ℕ)) (x : ℕ) (test : Bool) → test ≡ (R.is_set x || is_member x (set_now sets)) → R.needs op ≡ None → R.sets op ≡ x ∷ [] →
      step (outermost R) (with_set frames sets) (plain op) ≡ option_map (λ next. with_set next (if test then sets else set_also x sets)) (if_set frames (plain op))
  set_step op [] sets x test e a b = refl
  set_step op (f ∷ outer) sets x test e a b =
      after_plain_is op f outer sets None (x ∷ []) a b ∙ set_is op f outer sets x test e ∙
      ap (option_map (λ next. with_set next (if test then sets else set_also x sets))) (stated (f ∷ outer) (plain op))

  entering : (construct : Construct) (t : FunctionType) (f : Frame) (outer : List Frame) (sets : List (List ℕ)) (o : Option Stack) →
      option_map (λ rest. opened construct t (set_now sets) ∷ with_now (with_now f (setting (set_now sets) f.now)) (state rest f.now.unreachable (set_now sets)) ∷ with_set outer (set_outside sets)) o ≡
      option_map (λ next. with_set next (set_now sets ∷ sets))
      (option_map (λ fs. opened construct t f.now.set ∷ fs) (option_map (λ rest. with_now f (state rest f.now.unreachable f.now.set) ∷ outer) o))
  entering construct t f outer sets None = refl
  entering construct t f outer sets (Some rest) = refl

  entering_by : (construct : Construct) (first : Stack) (f : Frame) (outer : List Frame) (sets : List (List ℕ)) (t : Option FunctionType) →
      option_and_then (λ (t : FunctionType). entered R.order construct (first ++ t.takes) t (with_now f (setting (set_now sets) f.now)) (with_set outer (set_outside sets))) t ≡
      option_map (λ next. with_set next (set_now sets ∷ sets)) (opens_by R.order construct first t (f ∷ outer))
  entering_by construct first f outer sets None = refl
  entering_by construct first f outer sets (Some t) = entering construct t f outer sets (pop R.order (first ++ t.takes) f.now.operands f.now.unreachable)

  none_opens : (construct : Construct) (first : Stack) (sets : List (List ℕ)) (t : Option FunctionType) →
      None ≡ option_map (λ next. with_set next (set_now sets ∷ sets)) (opens_by R.order construct first t [])
  none_opens construct first sets None = refl
  none_opens construct first sets (Some t) = refl

  pub opens_step : (n : Nest) (op : A) (frames : List Frame) (sets : List (List ℕ)) →
      step (outermost R) (with_set frames sets) (opens n op) ≡ option_map (λ next. with_set next (set_now sets ∷ sets)) (if_set frames (opens n op))
  opens_step n op [] sets = none_opens (of_nest n) [] sets (R.type [] op) ∙ ap (option_map (λ next. with_set next (set_now sets ∷ sets))) (stated [] (opens n op))
  opens_step n op (f ∷ outer) sets =
      ap (λ ls. option_and_then (λ (t : FunctionType). entered R.order (of_nest n) t.takes t (with_now f (setting (set_now sets) f.now)) (with_set outer (set_outside sets))) (R.type ls op)) (seen (f ∷ outer) sets) ∙
      entering_by (of_nest n) [] f outer sets (R.type (labels_of (f ∷ outer)) op) ∙
      ap (option_map (λ next. with_set next (set_now sets ∷ sets))) (stated (f ∷ outer) (opens n op))

  pub opens_if_step : (op : A) (frames : List Frame) (sets : List (List ℕ)) →
      step (outermost R) (with_set frames sets) (opens_if op) ≡ option_map (λ next. with_set next (set_now sets ∷ sets)) (if_set frames (opens_if op))
  opens_if_step op [] sets = none_opens of_if (I32 ∷ []) sets (R.type [] op) ∙ ap (option_map (λ next. with_set next (set_now sets ∷ sets))) (stated [] (opens_if op))
  opens_if_step op (f ∷ outer) sets =
      ap (λ ls. option_and_then (λ (t : FunctionType). entered R.order of_if (I32 ∷ t.takes) t (with_now f (setting (set_now sets) f.now)) (with_set outer (set_outside sets))) (R.type ls op)) (seen (f ∷ outer) sets) ∙
      entering_by of_if (I32 ∷ []) f outer sets (R.type (labels_of (f ∷ outer)) op) ∙
      ap (option_map (λ next. with_set next (set_now sets ∷ sets))) (stated (f ∷ outer) (opens_if op))

  turning : (construct : Construct) (t : FunctionType) (outer : List Frame) (sets : List (List ℕ)) →
      turned construct t (with_set outer (set_outside sets)) ≡ option_map (λ next. with_set next (set_in_else outer sets)) (turned construct t outer)
  turning (of_nest n) t outer sets = refl
  turning of_else t outer sets = refl
  turning of_if t [] sets = refl
  turning of_if t (g ∷ outer) sets = refl

  pub else_step : (frames : List Frame) (sets : List (List ℕ)) →
      step (outermost R) (with_set frames sets) turns_else ≡ option_map (λ next. with_set next (set_in_else (around frames) sets)) (if_set frames turns_else)
  else_step [] sets = refl
  else_step (f ∷ outer) sets =
      go (closes R.order f.type.leaves f.now) ∙ ap (option_map (λ next. with_set next (set_in_else outer sets))) (stated (f ∷ outer) turns_else)
    where
      go : (test : Bool) → (if test then turned f.construct f.type (with_set outer (set_outside sets)) else None) ≡
          option_map (λ next. with_set next (set_in_else outer sets))
          (option_and_then (λ (e : Construct × FunctionType × List Frame). turned e.0 e.1 e.2) (if test then Some (f.construct, f.type, outer) else None))
      go true = turning f.construct f.type outer sets
      go false = refl

  receiving : (leaves : Stack) (outer : List Frame) (sets : List (List ℕ)) → receives leaves (with_set outer sets) ≡ with_set (receives leaves outer) sets
  receiving leaves [] sets = refl
  receiving leaves (g ∷ outer) sets = refl

  pub end_step : (frames : List Frame) (sets : List (List ℕ)) →
      step (outermost R) (with_set frames sets) ends ≡ option_map (λ next. with_set next (set_outside sets)) (if_set frames ends)
  end_step [] sets = refl
  end_step (f ∷ outer) sets =
      ap (λ fs. if closes R.order f.type.leaves f.now then (if may_end R.order f.construct f.type then Some fs else None) else None) (receiving f.type.leaves outer (set_outside sets)) ∙
      go (closes R.order f.type.leaves f.now) ∙
      ap (option_map (λ next. with_set next (set_outside sets))) (stated (f ∷ outer) ends)
    where
      each : (may : Bool) → (if may then Some (with_set (receives f.type.leaves outer) (set_outside sets)) else None) ≡
          option_map (λ next. with_set next (set_outside sets)) (if may then Some (receives f.type.leaves outer) else None)
      each true = refl
      each false = refl

      go : (test : Bool) → (if test then (if may_end R.order f.construct f.type then Some (with_set (receives f.type.leaves outer) (set_outside sets)) else None) else None) ≡
          option_map (λ next. with_set next (set_outside sets))
          (option_and_then (λ (e : Construct × FunctionType × List Frame). if may_end R.order e.0 e.1 then Some (receives e.1.leaves e.2) else None) (if test then Some (f.construct, f.type, outer) else None))
      go true = each (may_end R.order f.construct f.type)
      go false = refl

-- A result about frames in which locals are set.
pub answers_with : (yes : Bool) (o p : Option (List Frame)) (new : List Frame) (sets : List (List ℕ)) → p ≡ option_map (λ next. with_set next sets) o →
    Answers yes o new → Answers yes p (with_set new sets)
answers_with true o p new sets e h = e ∙ ap (option_map (λ next. with_set next sets)) h
answers_with false o p new sets e h = e ∙ ap (option_map (λ next. with_set next sets)) h
