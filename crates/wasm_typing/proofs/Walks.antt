-- The algorithm on a tree and along its walk.
use Rattle.std.proofs.Common.{◌≡◌, Bool, true, false, if◌then◌else◌, List, [], ◌∷◌, ◌++◌, Option, Some, None, refl, sym, ap, ◌∙◌, append_assoc}
use Rattle.std.specs.Option.{option_map, option_and_then}
use Rattle.wasm_grammar.specs.Role.{block, Role, turns_else, ends}
use Rattle.wasm_grammar.specs.Tree.{Instruction, single, nest, if_one, if_two, Instructions, nil, cons, walk_instruction, walk_instructions, walk, try_handle, try_delegate}
use Rattle.wasm_typing.specs.declared.value_type.ValueType.TheVariants.{I32}
use Rattle.wasm_typing.specs.Types.{Stack}
use Rattle.wasm_typing.specs.Matching.{IsOrder}
use Rattle.wasm_typing.specs.Rules.{Context, order_of, construct_type, label_of, inside}
use Rattle.wasm_typing.specs.Typing.{ExpressionTyped}
use Rattle.wasm_typing.specs.Checking.{State, state, pop, run_plain, closes, after, run_one, run_all}
use Rattle.wasm_typing.specs.Steps.{of_nest, of_if, of_else, Frame, within, opened, with_now, entered, steps, Accepts}
use Rattle.wasm_typing.proofs.Stacks.{bound, bind}
use Rattle.wasm_typing.proofs.Trees.{body_typed, run_all_typed, all_typed_run, match_known, ends_with}

-- one step after another
pub through : {A B D : Type 0} (o : Option A) (f : A → Option B) (g : B → Option D) (h : A → Option D) → ((a : A) → h a ≡ option_and_then g (f a)) →
    option_and_then h o ≡ option_and_then g (option_and_then f o)
through None f g h e = refl
through (Some a) f g h e = e a

apart : {A B D : Type 0} (o : Option A) (f : A → Option B) (g : B → Option D) →
    option_and_then g (option_and_then f o) ≡ option_and_then (λ a. option_and_then g (f a)) o
apart None f g = refl
apart (Some a) f g = refl

after_map : {A B D : Type 0} (o : Option A) (f : A → B) (g : B → Option D) → option_and_then g (option_map f o) ≡ option_and_then (λ a. g (f a)) o
after_map None f g = refl
after_map (Some a) f g = refl

alike : {A B : Type 0} (o : Option A) (f g : A → Option B) → ((a : A) → f a ≡ g a) → option_and_then f o ≡ option_and_then g o
alike None f g e = refl
alike (Some a) f g e = e a

-- the end of a construct
end_step : (test : Bool) (next : List Frame) (known_next : State) (frame : Frame) (outer : List Frame) (g : List Frame → Option (List Frame)) →
    next ≡ with_now frame known_next ∷ outer →
    option_and_then g (if test then Some next else None) ≡ option_and_then (λ now. g (with_now frame now ∷ outer)) (if test then Some known_next else None)
end_step true next k frame outer g e = ap g e
end_step false next k frame outer g e = refl

if_end_step : (may test : Bool) (next : List Frame) (known_next : State) (frame : Frame) (outer : List Frame) (g : List Frame → Option (List Frame)) →
    next ≡ with_now frame known_next ∷ outer →
    option_and_then g (if test then (if may then Some next else None) else None) ≡
    option_and_then (λ now. g (with_now frame now ∷ outer)) (if may then (if test then Some known_next else None) else None)
if_end_step true test next k frame outer g e = end_step test next k frame outer g e
if_end_step false true next k frame outer g e = refl
if_end_step false false next k frame outer g e = refl

else_step : (test : Bool) (next : List Frame) (o : Option State) (g : List Frame → Option (List Frame)) (h : State → Option (List Frame)) →
    g next ≡ option_and_then h o →
    option_and_then g (if test then Some next else None) ≡ option_and_then h (if test then o else None)
else_step true next o g h e = e
else_step false next o g h e = refl

-- The walk of a tree leads to the state of the algorithm on the tree, whatever follows.
mutual
  walk_one : {A : Type 0} → (i : Instruction A) (C : Context A) (frame : Frame) (outer : List Frame) (roles : List (Role A)) →
      steps C (frame ∷ outer) (walk_instruction i ++ roles) ≡
      option_and_then (λ now. steps C (with_now frame now ∷ outer) roles) (run_one (within C (frame ∷ outer)) i frame.now)
  walk_one {A} (single op) C frame outer roles =
      after_map (run_plain (within C (frame ∷ outer)) op frame.now) (λ now. with_now frame now ∷ outer) (λ next. steps C next roles)
  walk_one {A} (nest n op body) C frame outer roles =
      let D : Context A = within C (frame ∷ outer) in
      apart (construct_type D op) (λ f. entered (order_of C) (of_nest n) f.takes f frame outer) (λ next. steps C next ((walk_instructions body ++ ends ∷ []) ++ roles)) ∙
      through (construct_type D op)
      (λ f. option_and_then (λ rest. option_and_then (after (order_of C) f.leaves rest frame.now)
      (run_all (inside D (label_of n f)) body (state f.takes false frame.now.set))) (pop (order_of C) f.takes frame.now.operands frame.now.unreachable))
      (λ now. steps C (with_now frame now ∷ outer) roles)
      (λ f. option_and_then (λ next. steps C next ((walk_instructions body ++ ends ∷ []) ++ roles)) (entered (order_of C) (of_nest n) f.takes f frame outer))
      (λ f.
      after_map (pop (order_of C) f.takes frame.now.operands frame.now.unreachable) (λ rest. opened (of_nest n) f frame.now.set ∷ with_now frame (state rest frame.now.unreachable frame.now.set) ∷ outer)
      (λ next. steps C next ((walk_instructions body ++ ends ∷ []) ++ roles)) ∙
      through (pop (order_of C) f.takes frame.now.operands frame.now.unreachable)
      (λ rest. option_and_then (after (order_of C) f.leaves rest frame.now) (run_all (inside D (label_of n f)) body (state f.takes false frame.now.set)))
      (λ now. steps C (with_now frame now ∷ outer) roles)
      (λ rest. steps C (opened (of_nest n) f frame.now.set ∷ with_now frame (state rest frame.now.unreachable frame.now.set) ∷ outer) ((walk_instructions body ++ ends ∷ []) ++ roles))
      (λ rest.
      ap (steps C (opened (of_nest n) f frame.now.set ∷ with_now frame (state rest frame.now.unreachable frame.now.set) ∷ outer)) (append_assoc (walk_instructions body) (ends ∷ []) roles) ∙
      walk_all body C (opened (of_nest n) f frame.now.set) (with_now frame (state rest frame.now.unreachable frame.now.set) ∷ outer) (ends ∷ roles) ∙
      through (run_all (inside D (label_of n f)) body (state f.takes false frame.now.set)) (after (order_of C) f.leaves rest frame.now)
      (λ now. steps C (with_now frame now ∷ outer) roles)
      (λ end. steps C (with_now (opened (of_nest n) f frame.now.set) end ∷ with_now frame (state rest frame.now.unreachable frame.now.set) ∷ outer) (ends ∷ roles))
      (λ end. end_step (closes (order_of C) f.leaves end) (with_now frame (state (f.leaves ++ rest) frame.now.unreachable frame.now.set) ∷ outer) (state (f.leaves ++ rest) frame.now.unreachable frame.now.set) frame outer
      (λ next. steps C next roles) refl)))
  walk_one {A} (if_one op body) C frame outer roles =
      let D : Context A = within C (frame ∷ outer) in
      apart (construct_type D op) (λ f. entered (order_of C) of_if (I32 ∷ f.takes) f frame outer) (λ next. steps C next ((walk_instructions body ++ ends ∷ []) ++ roles)) ∙
      through (construct_type D op)
      (λ f. option_and_then (λ rest. option_and_then (λ end. if closes (order_of C) f.leaves (state f.takes false frame.now.set) then after (order_of C) f.leaves rest frame.now end else None)
      (run_all (inside D f.leaves) body (state f.takes false frame.now.set))) (pop (order_of C) (I32 ∷ f.takes) frame.now.operands frame.now.unreachable))
      (λ now. steps C (with_now frame now ∷ outer) roles)
      (λ f. option_and_then (λ next. steps C next ((walk_instructions body ++ ends ∷ []) ++ roles)) (entered (order_of C) of_if (I32 ∷ f.takes) f frame outer))
      (λ f.
      after_map (pop (order_of C) (I32 ∷ f.takes) frame.now.operands frame.now.unreachable) (λ rest. opened of_if f frame.now.set ∷ with_now frame (state rest frame.now.unreachable frame.now.set) ∷ outer)
      (λ next. steps C next ((walk_instructions body ++ ends ∷ []) ++ roles)) ∙
      through (pop (order_of C) (I32 ∷ f.takes) frame.now.operands frame.now.unreachable)
      (λ rest. option_and_then (λ end. if closes (order_of C) f.leaves (state f.takes false frame.now.set) then after (order_of C) f.leaves rest frame.now end else None)
      (run_all (inside D f.leaves) body (state f.takes false frame.now.set)))
      (λ now. steps C (with_now frame now ∷ outer) roles)
      (λ rest. steps C (opened of_if f frame.now.set ∷ with_now frame (state rest frame.now.unreachable frame.now.set) ∷ outer) ((walk_instructions body ++ ends ∷ []) ++ roles))
      (λ rest.
      ap (steps C (opened of_if f frame.now.set ∷ with_now frame (state rest frame.now.unreachable frame.now.set) ∷ outer)) (append_assoc (walk_instructions body) (ends ∷ []) roles) ∙
      walk_all body C (opened of_if f frame.now.set) (with_now frame (state rest frame.now.unreachable frame.now.set) ∷ outer) (ends ∷ roles) ∙
      through (run_all (inside D f.leaves) body (state f.takes false frame.now.set)) (λ end. if closes (order_of C) f.leaves (state f.takes false frame.now.set) then after (order_of C) f.leaves rest frame.now end else None)
      (λ now. steps C (with_now frame now ∷ outer) roles)
      (λ end. steps C (with_now (opened of_if f frame.now.set) end ∷ with_now frame (state rest frame.now.unreachable frame.now.set) ∷ outer) (ends ∷ roles))
      (λ end. if_end_step (closes (order_of C) f.leaves (state f.takes false frame.now.set)) (closes (order_of C) f.leaves end) (with_now frame (state (f.leaves ++ rest) frame.now.unreachable frame.now.set) ∷ outer)
      (state (f.leaves ++ rest) frame.now.unreachable frame.now.set) frame outer (λ next. steps C next roles) refl)))
  walk_one {A} (if_two op body other) C frame outer roles =
      let D : Context A = within C (frame ∷ outer) in
      let others : List (Role A) = walk_instructions other ++ ends ∷ [] in
      apart (construct_type D op) (λ f. entered (order_of C) of_if (I32 ∷ f.takes) f frame outer) (λ next. steps C next ((walk_instructions body ++ turns_else ∷ others) ++ roles)) ∙
      through (construct_type D op)
      (λ f. option_and_then (λ rest. option_and_then (λ end. if closes (order_of C) f.leaves end then
      option_and_then (after (order_of C) f.leaves rest frame.now) (run_all (inside D f.leaves) other (state f.takes false frame.now.set)) else None)
      (run_all (inside D f.leaves) body (state f.takes false frame.now.set))) (pop (order_of C) (I32 ∷ f.takes) frame.now.operands frame.now.unreachable))
      (λ now. steps C (with_now frame now ∷ outer) roles)
      (λ f. option_and_then (λ next. steps C next ((walk_instructions body ++ turns_else ∷ others) ++ roles)) (entered (order_of C) of_if (I32 ∷ f.takes) f frame outer))
      (λ f.
      after_map (pop (order_of C) (I32 ∷ f.takes) frame.now.operands frame.now.unreachable) (λ rest. opened of_if f frame.now.set ∷ with_now frame (state rest frame.now.unreachable frame.now.set) ∷ outer)
      (λ next. steps C next ((walk_instructions body ++ turns_else ∷ others) ++ roles)) ∙
      through (pop (order_of C) (I32 ∷ f.takes) frame.now.operands frame.now.unreachable)
      (λ rest. option_and_then (λ end. if closes (order_of C) f.leaves end then
      option_and_then (after (order_of C) f.leaves rest frame.now) (run_all (inside D f.leaves) other (state f.takes false frame.now.set)) else None)
      (run_all (inside D f.leaves) body (state f.takes false frame.now.set)))
      (λ now. steps C (with_now frame now ∷ outer) roles)
      (λ rest. steps C (opened of_if f frame.now.set ∷ with_now frame (state rest frame.now.unreachable frame.now.set) ∷ outer) ((walk_instructions body ++ turns_else ∷ others) ++ roles))
      (λ rest.
      ap (steps C (opened of_if f frame.now.set ∷ with_now frame (state rest frame.now.unreachable frame.now.set) ∷ outer)) (append_assoc (walk_instructions body) (turns_else ∷ others) roles) ∙
      walk_all body C (opened of_if f frame.now.set) (with_now frame (state rest frame.now.unreachable frame.now.set) ∷ outer) (turns_else ∷ (others ++ roles)) ∙
      through (run_all (inside D f.leaves) body (state f.takes false frame.now.set)) (λ end. if closes (order_of C) f.leaves end then
      option_and_then (after (order_of C) f.leaves rest frame.now) (run_all (inside D f.leaves) other (state f.takes false frame.now.set)) else None)
      (λ now. steps C (with_now frame now ∷ outer) roles)
      (λ end. steps C (with_now (opened of_if f frame.now.set) end ∷ with_now frame (state rest frame.now.unreachable frame.now.set) ∷ outer) (turns_else ∷ (others ++ roles)))
      (λ end. else_step (closes (order_of C) f.leaves end) (opened of_else f frame.now.set ∷ with_now frame (state rest frame.now.unreachable frame.now.set) ∷ outer)
      (option_and_then (after (order_of C) f.leaves rest frame.now) (run_all (inside D f.leaves) other (state f.takes false frame.now.set)))
      (λ next. steps C next (others ++ roles)) (λ now. steps C (with_now frame now ∷ outer) roles)
      (ap (steps C (opened of_else f frame.now.set ∷ with_now frame (state rest frame.now.unreachable frame.now.set) ∷ outer)) (append_assoc (walk_instructions other) (ends ∷ []) roles) ∙
      walk_all other C (opened of_else f frame.now.set) (with_now frame (state rest frame.now.unreachable frame.now.set) ∷ outer) (ends ∷ roles) ∙
      through (run_all (inside D f.leaves) other (state f.takes false frame.now.set)) (after (order_of C) f.leaves rest frame.now)
      (λ now. steps C (with_now frame now ∷ outer) roles)
      (λ last. steps C (with_now (opened of_else f frame.now.set) last ∷ with_now frame (state rest frame.now.unreachable frame.now.set) ∷ outer) (ends ∷ roles))
      (λ last. end_step (closes (order_of C) f.leaves last) (with_now frame (state (f.leaves ++ rest) frame.now.unreachable frame.now.set) ∷ outer) (state (f.leaves ++ rest) frame.now.unreachable frame.now.set) frame outer
      (λ next. steps C next roles) refl)))))
  walk_one {A} (try_handle op body handlers) C frame outer roles = refl
  walk_one {A} (try_delegate op body depth) C frame outer roles = refl

  pub walk_all : {A : Type 0} → (is : Instructions A) (C : Context A) (frame : Frame) (outer : List Frame) (roles : List (Role A)) →
      steps C (frame ∷ outer) (walk_instructions is ++ roles) ≡
      option_and_then (λ now. steps C (with_now frame now ∷ outer) roles) (run_all (within C (frame ∷ outer)) is frame.now)
  walk_all nil C frame outer roles = refl
  walk_all (cons i is) C frame outer roles =
      ap (steps C (frame ∷ outer)) (append_assoc (walk_instruction i) (walk_instructions is) roles) ∙
      walk_one i C frame outer (walk_instructions is ++ roles) ∙
      through (run_one (within C (frame ∷ outer)) i frame.now) (λ next. run_all (within C (frame ∷ outer)) is next)
      (λ now. steps C (with_now frame now ∷ outer) roles) (λ now. steps C (with_now frame now ∷ outer) (walk_instructions is ++ roles))
      (λ now. walk_all is C (with_now frame now) outer roles)

last_step : (test : Bool) → option_and_then (λ (next : List Frame). Some next) (if test then Some [] else None) ≡ Some [] → test ≡ true
last_step true e = refl
last_step false e = absurd (cc e)

-- The frame of an expression.
abbrev first : Stack → Frame
first results = opened (of_nest block) (record { takes = []; leaves = results }) []

pub accepted_typed : {A : Type 0} → (C : Context A) → IsOrder (order_of C) → (results : Stack) (tree : Instructions A) → Accepts C results (walk tree) → ExpressionTyped C tree results
accepted_typed C ok results tree e =
    let b = bound (λ now. steps C (with_now (first results) now ∷ []) (ends ∷ []))
    (run_all (inside C results) tree (state [] false [])) []
    (sym (walk_all tree C (first results) [] (ends ∷ [])) ∙ e) in
    body_typed (inside C results) ok (record { takes = []; leaves = results }) [] tree b.0
    (λ w g. run_all_typed tree (inside C results) ok (state [] false []) b.0 w b.1 g) (last_step (closes (order_of C) results b.0) b.2)

pub typed_accepted : {A : Type 0} → (C : Context A) → IsOrder (order_of C) → (results : Stack) (tree : Instructions A) → ExpressionTyped C tree results → Accepts C results (walk tree)
typed_accepted C ok results tree (xs, d) =
    let r = all_typed_run d ok (state [] false []) [] (λ x m. m) (match_known (order_of C) ok []) in
    walk_all tree C (first results) [] (ends ∷ []) ∙
    bind (λ now. steps C (with_now (first results) now ∷ []) (ends ∷ []))
    (run_all (inside C results) tree (state [] false [])) r.next [] r.is
    (ap (λ z. option_and_then (λ (next : List Frame). Some next) (if z then Some [] else None)) (ends_with (order_of C) ok results r.next r.holds))
