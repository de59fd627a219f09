-- The algorithm on trees, and the typing rules.
use Rattle.std.proofs.Common.{◌≡◌, ℕ, Bool, true, false, ◌||◌, if◌then◌else◌, List, [], ◌∷◌, ◌++◌, Option, Some, None, refl, sym, ap, subst, ◌∙◌, append_assoc}
use Rattle.std.specs.Prelude.{nat_eq}
use Rattle.std.proofs.lemmas.Bool.{eqb-true}
use Rattle.std.proofs.lemmas.List.{append-nil}
use Rattle.std.specs.Option.{option_map, option_and_then}
use Rattle.wasm_grammar.specs.Tree.{Instruction, single, nest, if_one, if_two, Instructions, nil, cons, try_handle, try_delegate}
use Rattle.wasm_typing.specs.declared.value_type.ValueType.TheVariants.{I32}
use Rattle.wasm_typing.specs.Types.{Stack, FunctionType}
use Rattle.wasm_typing.specs.Matching.{TypeOrder, IsOrder, AllMatch}
use Rattle.wasm_typing.specs.Rules.{Context, order_of, rule_of, construct_type, needs, sets, label_of, inside, is_ready, is_member, SetsWithin}
use Rattle.wasm_typing.specs.Typing.{Typed, by_rule, of_nest, of_if_one, of_if_two, AllTyped, none, one, more, frame, subsumed}
use Rattle.wasm_typing.specs.Checking.{State, state, Holds, pop, closes, unset, after, run_rule, run_one, run_all}
use Rattle.wasm_typing.proofs.Stacks.{chosen, choose, bound, bind, mapped, all_match_itself, holds_more, holds_itself, match_append, pop_sound, pop_complete, push_complete, push_sound, closes_sound, closes_complete}
use Rattle.wasm_typing.proofs.Single.{rule_sound, rule_complete}

-- locals that are set
-- a local that is set by `y` or by `s` and more, if it is so with `xs` in place of `ys`
one_more : (start first before after : Bool) → ((start || before) ≡ true → (start || after) ≡ true) → (start || (first || before)) ≡ true → (start || (first || after)) ≡ true
one_more true first before after f e = refl
one_more false true before after f e = refl
one_more false false before after f e = f e

sets_more : {A : Type 0} → (C : Context A) (s xs ys : List ℕ) → SetsWithin C xs ys → SetsWithin C (s ++ xs) (s ++ ys)
sets_more C [] xs ys w = w
sets_more C (y ∷ s) xs ys w = λ x e. one_more (C.rules.is_set x) (nat_eq x y) (is_member x (s ++ xs)) (is_member x (s ++ ys)) (sets_more C s xs ys w x) e

ready_more : {A : Type 0} → (C : Context A) (n : Option ℕ) (xs ys : List ℕ) → SetsWithin C xs ys → is_ready C n xs ≡ true → is_ready C n ys ≡ true
ready_more C None xs ys w e = refl
ready_more C (Some x) xs ys w e = w x e

-- The algorithm adds a local only if it is not set.
more_ready : {A : Type 0} (C : Context A) (z x : ℕ) (xs : List ℕ) → is_ready C (Some z) xs ≡ true → is_ready C (Some z) (x ∷ xs) ≡ true
more_ready C z x xs e = go (C.rules.is_set z) (nat_eq z x) (is_member z xs) e
  where
    go : (start first others : Bool) → (start || others) ≡ true → (start || (first || others)) ≡ true
    go true first others e = refl
    go false true others e = refl
    go false false others e = e

all_ready : {A : Type 0} (C : Context A) (z : ℕ) (xs ys : List ℕ) → is_ready C (Some z) ys ≡ true → is_ready C (Some z) (xs ++ ys) ≡ true
all_ready C z [] ys e = e
all_ready C z (x ∷ xs) ys e = more_ready C z x (xs ++ ys) (all_ready C z xs ys e)

unset_within : {A : Type 0} (C : Context A) (set xs : List ℕ) → SetsWithin C (unset C xs set ++ set) (xs ++ set)
unset_within C set [] = λ z e. e
unset_within C set (x ∷ xs) = go (is_ready C (Some x) set) (unset_within C set xs)
  where
    go : (test : Bool) → SetsWithin C (unset C xs set ++ set) (xs ++ set) → SetsWithin C ((if test then unset C xs set else x ∷ unset C xs set) ++ set) (x ∷ (xs ++ set))
    go true w = λ z e. more_ready C z x (xs ++ set) (w z e)
    go false w = sets_more C (x ∷ []) (unset C xs set ++ set) (xs ++ set) w

either : (start first before after : Bool) → (first ≡ true → (start || after) ≡ true) → ((start || before) ≡ true → (start || after) ≡ true) →
    (start || (first || before)) ≡ true → (start || after) ≡ true
either true first before after f g e = refl
either false true before after f g e = f refl
either false false before after f g e = g e

within_unset : {A : Type 0} (C : Context A) (set k : List ℕ) → SetsWithin C set k → (xs : List ℕ) → SetsWithin C (xs ++ set) (unset C xs k ++ k)
within_unset C set k w [] = w
within_unset C set k w (x ∷ xs) = go (is_ready C (Some x) k) refl (within_unset C set k w xs)
  where
    go : (test : Bool) → is_ready C (Some x) k ≡ test → SetsWithin C (xs ++ set) (unset C xs k ++ k) →
        SetsWithin C (x ∷ (xs ++ set)) ((if test then unset C xs k else x ∷ unset C xs k) ++ k)
    go true is h = λ z e.
        either (C.rules.is_set z) (nat_eq z x) (is_member z (xs ++ set)) (is_member z (unset C xs k ++ k))
        (λ same. subst (λ y. is_ready C (Some y) (unset C xs k ++ k) ≡ true) (sym (eqb-true z x same)) (all_ready C x (unset C xs k) k is)) (h z) e
    go false is h = sets_more C (x ∷ []) (xs ++ set) (unset C xs k ++ k) h

-- The algorithm continues, the frame may then hold these operands, and these locals are set.
pub record Runs {A : Type 0} (C : Context A) (o : Option State) (w : Stack) (set : List ℕ) : Type 0 where
  pub next : State
  pub is : o ≡ Some next
  pub holds : Holds (order_of C) next.operands next.unreachable w
  pub grown : SetsWithin C set next.set

-- Operands that the frame may have held before instructions that leave these.
pub record Begun {A : Type 0} (C : Context A) (is : Instructions A) (k next : State) (w : Stack) : Type 0 where
  pub from : Stack
  pub xs : List ℕ
  pub typed : AllTyped C k.set is from xs w
  pub holds : Holds (order_of C) k.operands k.unreachable from
  pub set_is : next.set ≡ xs ++ k.set

-- if no other operands may be held, these match
pub known_match : (O : TypeOrder) (k s : Stack) → Holds O k false s → AllMatch O k s
known_match O [] [] h = tt
known_match O [] (x ∷ s) h = absurd (cc h)
known_match O (v ∷ k) [] h = elim h [ ]
known_match O (v ∷ k) (x ∷ s) h = (h.0, known_match O k s h.1)

pub match_known : (O : TypeOrder) → IsOrder O → (s : Stack) → Holds O s false (s ++ [])
match_known O ok s = subst (λ x. Holds O s false x) (sym (append-nil s)) (holds_itself O ok s false)

-- a body may end if it leaves these
pub ends_with : (O : TypeOrder) → IsOrder O → (leaves : Stack) (k : State) → Holds O k.operands k.unreachable (leaves ++ []) → closes O leaves k ≡ true
ends_with O ok leaves k h = closes_complete O ok leaves k (subst (λ x. Holds O k.operands k.unreachable x) (append-nil leaves) h)

-- the type of a body that may end
pub body_typed : {A : Type 0} → (C : Context A) → IsOrder (order_of C) → (f : FunctionType) (set : List ℕ) (body : Instructions A) (end : State) →
    ((w : Stack) → Holds (order_of C) end.operands end.unreachable w → Begun C body (state f.takes false set) end w) → closes (order_of C) f.leaves end ≡ true →
    (xs : List ℕ) × AllTyped C set body f.takes xs f.leaves
body_typed C ok f set body end ih e =
    let b = ih f.leaves (closes_sound (order_of C) ok f.leaves end e) in
    (b.xs, subsumed f.takes f.leaves b.xs (known_match (order_of C) f.takes b.from b.holds) b.typed (all_match_itself (order_of C) ok f.leaves) (λ x m. m))

-- an instruction that takes these and leaves those, above any operands
placed : {A : Type 0} → (C : Context A) → IsOrder (order_of C) → (i : Instruction A) (takes leaves : Stack) (k next : State) (rest w : Stack) → Typed C k.set i takes [] leaves →
    pop (order_of C) takes k.operands k.unreachable ≡ Some rest → state (leaves ++ rest) k.unreachable k.set ≡ next → Holds (order_of C) next.operands next.unreachable w → Begun C (cons i nil) k next w
placed C ok i takes leaves k next rest w d e same h =
    let p = push_sound (order_of C) ok leaves rest k.unreachable w (subst (λ x. Holds (order_of C) x.operands x.unreachable w) (sym same) h) in
    record {
      from = takes ++ p.1;
      xs = [];
      typed = subsumed (takes ++ p.1) w [] (all_match_itself (order_of C) ok (takes ++ p.1)) (frame p.1 (one d))
          (subst (λ x. AllMatch (order_of C) (leaves ++ p.1) x) (sym p.2) (match_append (order_of C) ok leaves p.0 p.1 p.3)) (λ x m. m);
      holds = pop_sound (order_of C) ok takes k.operands k.unreachable rest p.1 e p.4;
      set_is = ap (λ (x : State). x.set) (sym same);
    }

-- soundness: what the algorithm accepts is typed
mutual
  run_typed : {A : Type 0} → (i : Instruction A) (C : Context A) → IsOrder (order_of C) → (k next : State) (w : Stack) →
      run_one C i k ≡ Some next → Holds (order_of C) next.operands next.unreachable w → Begun C (cons i nil) k next w
  run_typed (single op) C ok k next w e h =
      let r = chosen (is_ready C (needs C op) k.set) (option_map (λ next. state next.operands next.unreachable (unset C (sets C op) k.set ++ k.set)) (run_rule (order_of C) (rule_of C op) k)) next e in
      let m = mapped (λ (next : State). state next.operands next.unreachable (unset C (sets C op) k.set ++ k.set)) (run_rule (order_of C) (rule_of C op) k) next r.1 in
      let b = rule_sound (order_of C) ok (rule_of C op) k m.0 w m.1 (subst (λ x. Holds (order_of C) x.operands x.unreachable w) (sym m.2) h) in
      record {
        from = b.from ++ b.below;
        xs = unset C (sets C op) k.set;
        typed = subsumed (b.from ++ b.below) w (unset C (sets C op) k.set) (all_match_itself (order_of C) ok (b.from ++ b.below)) (frame b.below (one (by_rule b.types r.0))) b.becomes
            (unset_within C k.set (sets C op));
        holds = b.holds;
        set_is = ap (λ (x : State). x.set) (sym m.2);
      }
  run_typed (nest n op body) C ok k next w e h =
      let f = bound (λ f. option_and_then (λ rest. option_and_then (after (order_of C) f.leaves rest k)
      (run_all (inside C (label_of n f)) body (state f.takes false k.set))) (pop (order_of C) f.takes k.operands k.unreachable)) (construct_type C op) next e in
      let rest = bound (λ rest. option_and_then (after (order_of C) f.0.leaves rest k)
      (run_all (inside C (label_of n f.0)) body (state f.0.takes false k.set))) (pop (order_of C) f.0.takes k.operands k.unreachable) next f.2 in
      let end = bound (after (order_of C) f.0.leaves rest.0 k) (run_all (inside C (label_of n f.0)) body (state f.0.takes false k.set)) next rest.2 in
      let c = chosen (closes (order_of C) f.0.leaves end.0) (Some (state (f.0.leaves ++ rest.0) k.unreachable k.set)) next end.2 in
      let same : state (f.0.leaves ++ rest.0) k.unreachable k.set ≡ next = cc c.1 in
      let b = body_typed (inside C (label_of n f.0)) ok f.0 k.set body end.0
      (λ v g. run_all_typed body (inside C (label_of n f.0)) ok (state f.0.takes false k.set) end.0 v end.1 g) c.0 in
      placed C ok (nest n op body) f.0.takes f.0.leaves k next rest.0 w (of_nest f.0 b.0 f.1 b.1) rest.1 same h
  run_typed (if_one op body) C ok k next w e h =
      let f = bound (λ f. option_and_then (λ rest. option_and_then (λ end. if closes (order_of C) f.leaves (state f.takes false k.set) then after (order_of C) f.leaves rest k end else None)
      (run_all (inside C f.leaves) body (state f.takes false k.set))) (pop (order_of C) (I32 ∷ f.takes) k.operands k.unreachable)) (construct_type C op) next e in
      let rest = bound (λ rest. option_and_then (λ end. if closes (order_of C) f.0.leaves (state f.0.takes false k.set) then after (order_of C) f.0.leaves rest k end else None)
      (run_all (inside C f.0.leaves) body (state f.0.takes false k.set))) (pop (order_of C) (I32 ∷ f.0.takes) k.operands k.unreachable) next f.2 in
      let end = bound (λ end. if closes (order_of C) f.0.leaves (state f.0.takes false k.set) then after (order_of C) f.0.leaves rest.0 k end else None)
      (run_all (inside C f.0.leaves) body (state f.0.takes false k.set)) next rest.2 in
      let a = chosen (closes (order_of C) f.0.leaves (state f.0.takes false k.set)) (after (order_of C) f.0.leaves rest.0 k end.0) next end.2 in
      let c = chosen (closes (order_of C) f.0.leaves end.0) (Some (state (f.0.leaves ++ rest.0) k.unreachable k.set)) next a.1 in
      let same : state (f.0.leaves ++ rest.0) k.unreachable k.set ≡ next = cc c.1 in
      let b = body_typed (inside C f.0.leaves) ok f.0 k.set body end.0
      (λ v g. run_all_typed body (inside C f.0.leaves) ok (state f.0.takes false k.set) end.0 v end.1 g) c.0 in
      let n = body_typed (inside C f.0.leaves) ok f.0 k.set nil (state f.0.takes false k.set)
      (λ v g. record { from = v; xs = []; typed = frame v none; holds = g; set_is = refl }) a.0 in
      placed C ok (if_one op body) (I32 ∷ f.0.takes) f.0.leaves k next rest.0 w (of_if_one f.0 b.0 n.0 f.1 b.1 n.1) rest.1 same h
  run_typed (if_two op body other) C ok k next w e h =
      let f = bound (λ f. option_and_then (λ rest. option_and_then (λ end. if closes (order_of C) f.leaves end then
      option_and_then (after (order_of C) f.leaves rest k) (run_all (inside C f.leaves) other (state f.takes false k.set)) else None)
      (run_all (inside C f.leaves) body (state f.takes false k.set))) (pop (order_of C) (I32 ∷ f.takes) k.operands k.unreachable)) (construct_type C op) next e in
      let rest = bound (λ rest. option_and_then (λ end. if closes (order_of C) f.0.leaves end then
      option_and_then (after (order_of C) f.0.leaves rest k) (run_all (inside C f.0.leaves) other (state f.0.takes false k.set)) else None)
      (run_all (inside C f.0.leaves) body (state f.0.takes false k.set))) (pop (order_of C) (I32 ∷ f.0.takes) k.operands k.unreachable) next f.2 in
      let end = bound (λ end. if closes (order_of C) f.0.leaves end then
      option_and_then (after (order_of C) f.0.leaves rest.0 k) (run_all (inside C f.0.leaves) other (state f.0.takes false k.set)) else None)
      (run_all (inside C f.0.leaves) body (state f.0.takes false k.set)) next rest.2 in
      let a = chosen (closes (order_of C) f.0.leaves end.0) (option_and_then (after (order_of C) f.0.leaves rest.0 k) (run_all (inside C f.0.leaves) other (state f.0.takes false k.set))) next end.2 in
      let last = bound (after (order_of C) f.0.leaves rest.0 k) (run_all (inside C f.0.leaves) other (state f.0.takes false k.set)) next a.1 in
      let c = chosen (closes (order_of C) f.0.leaves last.0) (Some (state (f.0.leaves ++ rest.0) k.unreachable k.set)) next last.2 in
      let same : state (f.0.leaves ++ rest.0) k.unreachable k.set ≡ next = cc c.1 in
      let b = body_typed (inside C f.0.leaves) ok f.0 k.set body end.0
      (λ v g. run_all_typed body (inside C f.0.leaves) ok (state f.0.takes false k.set) end.0 v end.1 g) a.0 in
      let n = body_typed (inside C f.0.leaves) ok f.0 k.set other last.0
      (λ v g. run_all_typed other (inside C f.0.leaves) ok (state f.0.takes false k.set) last.0 v last.1 g) c.0 in
      placed C ok (if_two op body other) (I32 ∷ f.0.takes) f.0.leaves k next rest.0 w (of_if_two f.0 b.0 n.0 f.1 b.1 n.1) rest.1 same h
  run_typed (try_handle op body handlers) C ok k next w e h = absurd (cc e)
  run_typed (try_delegate op body depth) C ok k next w e h = absurd (cc e)

  pub run_all_typed : {A : Type 0} → (is : Instructions A) (C : Context A) → IsOrder (order_of C) → (k next : State) (w : Stack) →
      run_all C is k ≡ Some next → Holds (order_of C) next.operands next.unreachable w → Begun C is k next w
  run_all_typed nil C ok k next w e h =
      let same : k ≡ next = cc e in
      record { from = w; xs = []; typed = frame w none; holds = subst (λ x. Holds (order_of C) x.operands x.unreachable w) (sym same) h; set_is = ap (λ (x : State). x.set) (sym same) }
  run_all_typed (cons i is) C ok k next w e h =
      let b = bound (λ next. run_all C is next) (run_one C i k) next e in
      let after = run_all_typed is C ok b.0 next w b.2 h in
      let before = run_typed i C ok k b.0 after.from b.1 after.holds in
      record {
        from = before.from;
        xs = after.xs ++ before.xs;
        typed = more before.typed (subst (λ s. AllTyped C s is after.from after.xs w) before.set_is after.typed);
        holds = before.holds;
        set_is = after.set_is ∙ ap (λ s. after.xs ++ s) before.set_is ∙ sym (append_assoc after.xs before.xs k.set);
      }

-- after a construct whose body may end
after_runs : {A : Type 0} → (C : Context A) → IsOrder (order_of C) → (leaves rest : Stack) (k end : State) (below : Stack) (set : List ℕ) →
    Holds (order_of C) end.operands end.unreachable (leaves ++ []) → Holds (order_of C) rest k.unreachable below →
    SetsWithin C set k.set → Runs C (after (order_of C) leaves rest k end) (leaves ++ below) set
after_runs C ok leaves rest k end below set h g w =
    record {
      next = state (leaves ++ rest) k.unreachable k.set;
      is = choose (closes (order_of C) leaves end) (Some (state (leaves ++ rest) k.unreachable k.set)) (state (leaves ++ rest) k.unreachable k.set) (ends_with (order_of C) ok leaves end h) refl;
      holds = push_complete (order_of C) ok leaves rest k.unreachable below g;
      grown = w;
    }

-- a step, and then another
then_runs : {A B : Type 0} (C : Context A) (f : B → Option State) (o : Option B) (x : B) (w : Stack) (set : List ℕ) → o ≡ Some x → Runs C (f x) w set → Runs C (option_and_then f o) w set
then_runs C f o x w set e r = record { next = r.next; is = bind f o x r.next e r.is; holds = r.holds; grown = r.grown }

chosen_runs : {A : Type 0} (C : Context A) (test : Bool) (o : Option State) (w : Stack) (set : List ℕ) → test ≡ true → Runs C o w set → Runs C (if test then o else None) w set
chosen_runs C test o w set e r = record { next = r.next; is = choose test o r.next e r.is; holds = r.holds; grown = r.grown }

-- completeness: the algorithm accepts what is typed
mutual
  typed_runs : {A : Type 0} {C : Context A} {set : List ℕ} {i : Instruction A} {from : Stack} {xs : List ℕ} {to : Stack} → Typed C set i from xs to → IsOrder (order_of C) → (k : State) (below : Stack) →
      SetsWithin C set k.set → Holds (order_of C) k.operands k.unreachable (from ++ below) → Runs C (run_one C i k) (to ++ below) (xs ++ set)
  typed_runs {C} {set} {i} {from} {xs} {to} (by_rule {op = op} y ready) ok k below within h =
      let r = rule_complete (order_of C) ok (rule_of C op) k from to below y h in
      record {
        next = state r.0.operands r.0.unreachable (unset C (sets C op) k.set ++ k.set);
        is = choose (is_ready C (needs C op) k.set) (option_map (λ next. state next.operands next.unreachable (unset C (sets C op) k.set ++ k.set)) (run_rule (order_of C) (rule_of C op) k))
            (state r.0.operands r.0.unreachable (unset C (sets C op) k.set ++ k.set)) (ready_more C (needs C op) set k.set within ready)
            (ap (option_map (λ (next : State). state next.operands next.unreachable (unset C (sets C op) k.set ++ k.set))) r.1);
        holds = r.2;
        grown = within_unset C set k.set within (sets C op);
      }
  typed_runs {C} {set} (of_nest {n = n} {op = op} {body = body} f xs e d) ok k below within h =
      let p = pop_complete (order_of C) ok f.takes k.operands k.unreachable f.takes below h (all_match_itself (order_of C) ok f.takes) in
      let b = all_typed_run d ok (state f.takes false k.set) [] within (match_known (order_of C) ok f.takes) in
      then_runs C (λ f. option_and_then (λ rest. option_and_then (after (order_of C) f.leaves rest k)
      (run_all (inside C (label_of n f)) body (state f.takes false k.set))) (pop (order_of C) f.takes k.operands k.unreachable)) (construct_type C op) f (f.leaves ++ below) set e
      (then_runs C (λ rest. option_and_then (after (order_of C) f.leaves rest k) (run_all (inside C (label_of n f)) body (state f.takes false k.set))) (pop (order_of C) f.takes k.operands k.unreachable) p.0
      (f.leaves ++ below) set p.1
      (then_runs C (after (order_of C) f.leaves p.0 k) (run_all (inside C (label_of n f)) body (state f.takes false k.set)) b.next (f.leaves ++ below) set b.is
      (after_runs C ok f.leaves p.0 k b.next below set b.holds p.2 within)))
  typed_runs {C} {set} (of_if_one {op = op} {body = body} f xs ys e d empty) ok k below within h =
      let p = pop_complete (order_of C) ok (I32 ∷ f.takes) k.operands k.unreachable (I32 ∷ f.takes) below h (all_match_itself (order_of C) ok (I32 ∷ f.takes)) in
      let b = all_typed_run d ok (state f.takes false k.set) [] within (match_known (order_of C) ok f.takes) in
      let a = all_typed_run empty ok (state f.takes false k.set) [] within (match_known (order_of C) ok f.takes) in
      let same : state f.takes false k.set ≡ a.next = cc a.is in
      then_runs C (λ f. option_and_then (λ rest. option_and_then (λ end. if closes (order_of C) f.leaves (state f.takes false k.set) then after (order_of C) f.leaves rest k end else None)
      (run_all (inside C f.leaves) body (state f.takes false k.set))) (pop (order_of C) (I32 ∷ f.takes) k.operands k.unreachable)) (construct_type C op) f (f.leaves ++ below) set e
      (then_runs C (λ rest. option_and_then (λ end. if closes (order_of C) f.leaves (state f.takes false k.set) then after (order_of C) f.leaves rest k end else None)
      (run_all (inside C f.leaves) body (state f.takes false k.set))) (pop (order_of C) (I32 ∷ f.takes) k.operands k.unreachable) p.0 (f.leaves ++ below) set p.1
      (then_runs C (λ end. if closes (order_of C) f.leaves (state f.takes false k.set) then after (order_of C) f.leaves p.0 k end else None)
      (run_all (inside C f.leaves) body (state f.takes false k.set)) b.next (f.leaves ++ below) set b.is
      (chosen_runs C (closes (order_of C) f.leaves (state f.takes false k.set)) (after (order_of C) f.leaves p.0 k b.next) (f.leaves ++ below) set
      (ends_with (order_of C) ok f.leaves (state f.takes false k.set) (subst (λ x. Holds (order_of C) x.operands x.unreachable (f.leaves ++ [])) (sym same) a.holds))
      (after_runs C ok f.leaves p.0 k b.next below set b.holds p.2 within))))
  typed_runs {C} {set} (of_if_two {op = op} {body = body} {other = other} f xs ys e d g) ok k below within h =
      let p = pop_complete (order_of C) ok (I32 ∷ f.takes) k.operands k.unreachable (I32 ∷ f.takes) below h (all_match_itself (order_of C) ok (I32 ∷ f.takes)) in
      let b = all_typed_run d ok (state f.takes false k.set) [] within (match_known (order_of C) ok f.takes) in
      let a = all_typed_run g ok (state f.takes false k.set) [] within (match_known (order_of C) ok f.takes) in
      then_runs C (λ f. option_and_then (λ rest. option_and_then (λ end. if closes (order_of C) f.leaves end then
      option_and_then (after (order_of C) f.leaves rest k) (run_all (inside C f.leaves) other (state f.takes false k.set)) else None)
      (run_all (inside C f.leaves) body (state f.takes false k.set))) (pop (order_of C) (I32 ∷ f.takes) k.operands k.unreachable)) (construct_type C op) f (f.leaves ++ below) set e
      (then_runs C (λ rest. option_and_then (λ end. if closes (order_of C) f.leaves end then
      option_and_then (after (order_of C) f.leaves rest k) (run_all (inside C f.leaves) other (state f.takes false k.set)) else None)
      (run_all (inside C f.leaves) body (state f.takes false k.set))) (pop (order_of C) (I32 ∷ f.takes) k.operands k.unreachable) p.0 (f.leaves ++ below) set p.1
      (then_runs C (λ end. if closes (order_of C) f.leaves end then
      option_and_then (after (order_of C) f.leaves p.0 k) (run_all (inside C f.leaves) other (state f.takes false k.set)) else None)
      (run_all (inside C f.leaves) body (state f.takes false k.set)) b.next (f.leaves ++ below) set b.is
      (chosen_runs C (closes (order_of C) f.leaves b.next) (option_and_then (after (order_of C) f.leaves p.0 k) (run_all (inside C f.leaves) other (state f.takes false k.set))) (f.leaves ++ below) set
      (ends_with (order_of C) ok f.leaves b.next b.holds)
      (then_runs C (after (order_of C) f.leaves p.0 k) (run_all (inside C f.leaves) other (state f.takes false k.set)) a.next (f.leaves ++ below) set a.is
      (after_runs C ok f.leaves p.0 k a.next below set a.holds p.2 within)))))

  pub all_typed_run : {A : Type 0} {C : Context A} {set : List ℕ} {is : Instructions A} {from : Stack} {xs : List ℕ} {to : Stack} → AllTyped C set is from xs to → IsOrder (order_of C) → (k : State) (below : Stack) →
      SetsWithin C set k.set → Holds (order_of C) k.operands k.unreachable (from ++ below) → Runs C (run_all C is k) (to ++ below) (xs ++ set)
  all_typed_run none ok k below within h = record { next = k; is = refl; holds = h; grown = within }
  all_typed_run {C} {set} {is} {from} {xs} {to} (one {i = i} d) ok k below within h =
      let r = typed_runs d ok k below within h in
      record { next = r.next; is = ap (option_and_then (λ next. run_all C nil next)) r.is; holds = r.holds; grown = r.grown }
  all_typed_run {C} {set} {from = from} {to = to} (more {i = i} {is = is} {xs = xs} {ys = ys} first others) ok k below within h =
      let r = all_typed_run first ok k below within h in
      let b = bound (λ (next : State). run_all C nil next) (run_one C i k) r.next r.is in
      let same : b.0 ≡ r.next = cc b.2 in
      let s = all_typed_run others ok r.next below r.grown r.holds in
      then_runs C (λ next. run_all C is next) (run_one C i k) r.next (to ++ below) ((ys ++ xs) ++ set) (b.1 ∙ ap (λ x. Some x) same)
      (record { next = s.next; is = s.is; holds = s.holds; grown = subst (λ z. SetsWithin C z s.next.set) (sym (append_assoc ys xs set)) s.grown })
  all_typed_run {C} {set} {is} (frame {from = from} {to = to} low d) ok k below within h =
      let r = all_typed_run d ok k (low ++ below) within (subst (λ x. Holds (order_of C) k.operands k.unreachable x) (append_assoc from low below) h) in
      record { next = r.next; is = r.is; holds = subst (λ x. Holds (order_of C) r.next.operands r.next.unreachable x) (sym (append_assoc to low below)) r.holds; grown = r.grown }
  all_typed_run {C} {set} {is} (subsumed {from = from} {to = to} least most ys m d n w) ok k below within h =
      let r = all_typed_run d ok k below within (holds_more (order_of C) ok k.operands k.unreachable (least ++ below) (from ++ below) h (match_append (order_of C) ok least from below m)) in
      record {
        next = r.next;
        is = r.is;
        holds = holds_more (order_of C) ok r.next.operands r.next.unreachable (to ++ below) (most ++ below) r.holds (match_append (order_of C) ok to most below n);
        grown = λ x q. r.grown x (w x q);
      }
