-- A role that the frame rules allow extends an open path.
use Rattle.std.proofs.Common.{◌≡◌, ℕ, List, [], ◌∷◌, ◌++◌, Option, Some, None, refl, sym, subst, ap, ◌∙◌, append_assoc}
use Rattle.std.proofs.lemmas.List.{append-nil}
use Rattle.std.specs.Option.{option_map}
use Rattle.wasm_grammar.specs.declared.frame_kind.FrameKind.{FrameKind}
use Rattle.wasm_grammar.specs.declared.frame_kind.FrameKind.TheVariants as frame
use Rattle.wasm_grammar.specs.Role.{block, loop, try_table, Role, plain, opens, opens_if, opens_try, turns_else, turns_catch, turns_catch_all, delegates, ends}
use Rattle.wasm_grammar.specs.Tree.{Instruction, single, nest, if_one, if_two, try_handle, try_delegate, Instructions, nil, cons, Handlers, no_more, for_all, for_tag, walk_instruction, walk_instructions, walk_handlers}
use Rattle.wasm_grammar.specs.Frames.{kind_of_nest, replacement, frames_after_in, frames_after}
use Rattle.wasm_grammar.specs.OpenPath.{Parts, walk_parts, Head, of_nest, of_if, of_else, of_try, of_catch, of_catch_all, kind_of_head, walk_head, OpenPathIn, OpenPath}
use Rattle.wasm_grammar.proofs.Paths.{some_is}

push : {A : Type 0} → Instructions A → Instruction A → Instructions A
push nil last = cons last nil
push (cons first more) last = cons first (push more last)

walk_instructions-push : {A : Type 0} (more : Instructions A) (last : Instruction A) →
    walk_instructions more ++ walk_instruction last ≡ walk_instructions (push more last)
unfolding push
walk_instructions-push nil last = sym (append-nil (walk_instruction last))
walk_instructions-push (cons first more) last =
    append_assoc (walk_instruction first) (walk_instructions more) (walk_instruction last)
    ∙ ap (λ roles. walk_instruction first ++ roles) (walk_instructions-push more last)

handlers_of : {A : Type 0} → Parts A → Handlers A → Handlers A
handlers_of [] handlers = handlers
handlers_of (part ∷ parts) handlers = for_tag part.0 part.1 (handlers_of parts handlers)

walk-handlers_of : {A : Type 0} (parts : Parts A) (handlers : Handlers A) →
    walk_parts parts ++ walk_handlers handlers ≡ walk_handlers (handlers_of parts handlers)
unfolding handlers_of
walk-handlers_of [] handlers = refl
walk-handlers_of (part ∷ parts) handlers =
    ap (λ roles. turns_catch part.0 ∷ roles) (append_assoc (walk_instructions part.1) (walk_parts parts) (walk_handlers handlers) ∙
    ap (λ roles. walk_instructions part.1 ++ roles) (walk-handlers_of parts handlers))

walk_parts-push : {A : Type 0} (parts : Parts A) (tag : ℕ) (body : Instructions A) →
    walk_parts parts ++ turns_catch tag ∷ walk_instructions body ≡ walk_parts (parts ++ (tag, body) ∷ [])
walk_parts-push [] tag body = ap (λ roles. turns_catch tag ∷ roles) (sym (append-nil (walk_instructions body)))
walk_parts-push (part ∷ parts) tag body =
    ap (λ roles. turns_catch part.0 ∷ roles) (append_assoc (walk_instructions part.1) (walk_parts parts) (turns_catch tag ∷ walk_instructions body) ∙
    ap (λ roles. walk_instructions part.1 ++ roles) (walk_parts-push parts tag body))

closed : {A : Type 0} → Head A → Instructions A → Instruction A
closed (of_nest n a) body = nest n a body
closed (of_if a) body = if_one a body
closed (of_else a before) body = if_two a before body
closed (of_try a) body = try_handle a body no_more
closed (of_catch a before parts tag) body = try_handle a before (handlers_of parts (for_tag tag body no_more))
closed (of_catch_all a before parts) body = try_handle a before (handlers_of parts (for_all body))

regroup : {B : Type 0} (w x : List B) (s : B) (y : List B) → (w ++ (x ++ s ∷ [])) ++ y ≡ w ++ (x ++ s ∷ y)
regroup w x s y = append_assoc w (x ++ s ∷ []) y ∙ ap (λ z. w ++ z) (append_assoc x (s ∷ []) y)

walk-closed : {A : Type 0} (head : Head A) (body : Instructions A) →
    walk_head head ++ (walk_instructions body ++ ends ∷ []) ≡ walk_instruction (closed head body)
unfolding closed
walk-closed (of_nest n a) body = refl
walk-closed (of_if a) body = refl
walk-closed (of_else a before) body =
    ap (λ roles. opens_if a ∷ roles) (append_assoc (walk_instructions before) (turns_else ∷ []) (walk_instructions body ++ ends ∷ []))
walk-closed (of_try a) body = refl
walk-closed (of_catch a before parts tag) body =
    ap (λ roles. opens_try a ∷ roles) (regroup (walk_instructions before) (walk_parts parts) (turns_catch tag) (walk_instructions body ++ ends ∷ []) ∙
    ap (λ roles. walk_instructions before ++ roles) (walk-handlers_of parts (for_tag tag body no_more)))
walk-closed (of_catch_all a before parts) body =
    ap (λ roles. opens_try a ∷ roles) (regroup (walk_instructions before) (walk_parts parts) turns_catch_all (walk_instructions body ++ ends ∷ []) ∙
    ap (λ roles. walk_instructions before ++ roles) (walk-handlers_of parts (for_all body)))

after : {A : Type 0} → Instructions A → Head A → Instructions A → Role A → List (Role A)
after before head body role = (walk_instructions before ++ (walk_head head ++ walk_instructions body)) ++ role ∷ []

after-is : {A : Type 0} (before : Instructions A) (head : Head A) (body : Instructions A) (role : Role A) →
    after before head body role ≡ walk_instructions before ++ (walk_head head ++ (walk_instructions body ++ role ∷ []))
unfolding after
after-is before head body role =
    append_assoc (walk_instructions before) (walk_head head ++ walk_instructions body) (role ∷ [])
    ∙ ap (λ roles. walk_instructions before ++ roles) (append_assoc (walk_head head) (walk_instructions body) (role ∷ []))

to_frames : {A : Type 0} (roles : List (Role A)) (frames next : List FrameKind) →
    Some frames ≡ Some next → OpenPathIn roles frames → OpenPathIn roles next
to_frames roles frames next e path = subst (OpenPathIn roles) (some_is e) path

longer_path : {A : Type 0} (before : Instructions A) (head : Head A) (body : Instructions A) (a : A) →
    OpenPathIn (after before head body (plain a)) (kind_of_head head ∷ [])
longer_path before head body a = (
  before,
  head,
  walk_instructions (push body (single a)),
  refl,
  after-is before head body (plain a) ∙
      ap (λ roles. walk_instructions before ++ (walk_head head ++ roles)) (walk_instructions-push body (single a)),
  (push body (single a), refl),
)

opened_path : {A : Type 0} (before : Instructions A) (head : Head A) (body : Instructions A) (role : Role A)
    (other : Head A) →
    walk_head other ≡ role ∷ [] →
    OpenPathIn (after before head body role) (kind_of_head head ∷ kind_of_head other ∷ [])
opened_path before head body role other e = (
  before,
  head,
  walk_instructions body ++ (walk_head other ++ []),
  refl,
  after-is before head body role ∙
      ap (λ roles. walk_instructions before ++ (walk_head head ++ (walk_instructions body ++ roles))) (sym e ∙ sym (append-nil (walk_head other))),
  (body, other, [], refl, refl, (nil, refl)),
)

turned_path : {A : Type 0} (before : Instructions A) (head : Head A) (body : Instructions A) (role : Role A)
    (other : Head A) →
    walk_head head ++ (walk_instructions body ++ role ∷ []) ≡ walk_head other →
    OpenPathIn (after before head body role) (kind_of_head other ∷ [])
turned_path before head body role other e = (
  before,
  other,
  [],
  refl,
  after-is before head body role ∙ ap (λ roles. walk_instructions before ++ roles) (e ∙ sym (append-nil (walk_head other))),
  (nil, refl),
)

closed_path : {A : Type 0} (before : Instructions A) (head : Head A) (body : Instructions A) (role : Role A)
    (instruction : Instruction A) →
    walk_head head ++ (walk_instructions body ++ role ∷ []) ≡ walk_instruction instruction →
    OpenPathIn (after before head body role) []
closed_path before head body role instruction e =
    (push before instruction, after-is before head body role ∙ ap (λ roles. walk_instructions before ++ roles) e ∙ walk_instructions-push before instruction)

catch_head : {A : Type 0} (a : A) (before : Instructions A) (parts : Parts A) (tag : ℕ) (body : Instructions A)
    (role : Role A) →
    walk_head (of_catch a before parts tag) ++ (walk_instructions body ++ role ∷ []) ≡ opens_try
    a ∷ (walk_instructions before ++ (walk_parts (parts ++ (tag, body) ∷ []) ++ role ∷ []))
catch_head a before parts tag body role = ap (λ roles. opens_try a ∷ roles) (
    regroup (walk_instructions before) (walk_parts parts) (turns_catch tag) (walk_instructions body ++ role ∷ [])
    ∙ ap (λ roles. walk_instructions before ++ roles) (sym (append_assoc (walk_parts parts) (turns_catch tag ∷ walk_instructions body) (role ∷ [])) ∙
    ap (λ roles. roles ++ role ∷ []) (walk_parts-push parts tag body)))

step_innermost : {A : Type 0} (role : Role A) (before : Instructions A) (head : Head A) (body : Instructions A)
    (next : List FrameKind) →
    replacement (kind_of_head head) role ≡ Some next → OpenPathIn (after before head body role) next
step_innermost (plain a) before head body next e =
    to_frames (after before head body (plain a)) (kind_of_head head ∷ []) next e (longer_path before head body a)
step_innermost (opens n a) before head body next e =
    to_frames (after before head body (opens n a)) (kind_of_head head ∷ kind_of_nest n ∷ []) next e
    (opened_path before head body (opens n a) (of_nest n a) refl)
step_innermost (opens_if a) before head body next e =
    to_frames (after before head body (opens_if a)) (kind_of_head head ∷ frame.If ∷ []) next e (opened_path before head body (opens_if a) (of_if a) refl)
step_innermost (opens_try a) before head body next e =
    to_frames (after before head body (opens_try a)) (kind_of_head head ∷ frame.LegacyTry ∷ []) next e
    (opened_path before head body (opens_try a) (of_try a) refl)
step_innermost ends before head body next e =
    to_frames (after before head body ends) [] next e (closed_path before head body ends (closed head body) (walk-closed head body))
step_innermost turns_else before (of_if a) body next e =
    to_frames (after before (of_if a) body turns_else) (frame.Else ∷ []) next e (turned_path before (of_if a) body turns_else (of_else a body) refl)
step_innermost (turns_catch tag) before (of_try a) body next e =
    to_frames (after before (of_try a) body (turns_catch tag)) (frame.LegacyCatch ∷ []) next e
    (turned_path before (of_try a) body (turns_catch tag) (of_catch a body [] tag) refl)
step_innermost (turns_catch tag) before (of_catch a first parts last) body next e =
    to_frames (after before (of_catch a first parts last) body (turns_catch tag)) (frame.LegacyCatch ∷ []) next e
    (turned_path before (of_catch a first parts last) body (turns_catch tag) (of_catch a first (parts ++ (last, body) ∷ []) tag)
    (catch_head a first parts last body (turns_catch tag)))
step_innermost turns_catch_all before (of_try a) body next e =
    to_frames (after before (of_try a) body turns_catch_all) (frame.LegacyCatchAll ∷ []) next e
    (turned_path before (of_try a) body turns_catch_all (of_catch_all a body []) refl)
step_innermost turns_catch_all before (of_catch a first parts last) body next e =
    to_frames (after before (of_catch a first parts last) body turns_catch_all) (frame.LegacyCatchAll ∷ []) next e
    (turned_path before (of_catch a first parts last) body turns_catch_all (of_catch_all a first (parts ++ (last, body) ∷ []))
    (catch_head a first parts last body turns_catch_all))
step_innermost (delegates depth) before (of_try a) body next e =
    to_frames (after before (of_try a) body (delegates depth)) [] next e
    (closed_path before (of_try a) body (delegates depth) (try_delegate a body depth) refl)
step_innermost role before (of_nest block a) body next e = absurd (cc e)
step_innermost role before (of_nest loop a) body next e = absurd (cc e)
step_innermost role before (of_nest try_table a) body next e = absurd (cc e)
step_innermost _ before _ body next e = absurd (cc e)

pub mapped : {X Y : Type 0} (f : X → Y) (o : Option X) (y : Y) →
    option_map f o ≡ Some y → (x : X) × (o ≡ Some x) × (f x ≡ y)
mapped f None y e = absurd (cc e)
mapped f (Some x) y e = (x, refl, some_is e)

step_inside : {A : Type 0} (frames : List FrameKind) (kind : FrameKind) (roles : List (Role A)) (role : Role A)
    (next : List FrameKind) →
    OpenPathIn roles (kind ∷ frames) → frames_after_in kind frames role ≡ Some next →
    OpenPathIn (roles ++ role ∷ []) next
unfolding after
step_inside [] kind roles role next (before, head, inner, kind_is, roles_are, (body, inner_is)) e =
    let at_h : OpenPathIn (after before head body role) next = step_innermost role before head body next (ap (λ x. replacement x role) kind_is ∙ e) in
    let same : after before head body role ≡ roles ++ role ∷ [] =
    ap (λ x. x ++ role ∷ []) (sym (roles_are ∙ ap (λ x. walk_instructions before ++ (walk_head head ++ x)) inner_is)) in
    subst (λ x. OpenPathIn x next) same at_h
step_inside (inside ∷ frames) kind roles role next (before, head, inner, kind_is, roles_are, path) e =
    let m = mapped (λ (x : List FrameKind). kind ∷ x) (frames_after_in inside frames role) next e in
    let deeper : OpenPathIn (inner ++ role ∷ []) m.0 = step_inside frames inside inner role m.0 path m.1 in
    let same : roles ++ role ∷ [] ≡ walk_instructions before ++ (walk_head head ++ (inner ++ role ∷ [])) = ap (λ x. x ++ role ∷ []) roles_are ∙
    append_assoc (walk_instructions before) (walk_head head ++ inner) (role ∷ []) ∙
    ap (λ x. walk_instructions before ++ x) (append_assoc (walk_head head) inner (role ∷ [])) in
    subst (OpenPathIn (roles ++ role ∷ [])) m.2 (before, head, inner ++ role ∷ [], kind_is, same, deeper)

step_outermost : {A : Type 0} (role : Role A) (before : Instructions A) (next : List FrameKind) →
    replacement frame.Block role ≡ Some next → OpenPath (walk_instructions before ++ role ∷ []) next
step_outermost (plain a) before next e =
    subst (OpenPath _) (some_is e) (refl, (push before (single a), walk_instructions-push before (single a)))
step_outermost (opens n a) before next e =
    subst (OpenPath _) (some_is e) (refl, (before, of_nest n a, [], refl, refl, (nil, refl)))
step_outermost (opens_if a) before next e =
    subst (OpenPath _) (some_is e) (refl, (before, of_if a, [], refl, refl, (nil, refl)))
step_outermost (opens_try a) before next e =
    subst (OpenPath _) (some_is e) (refl, (before, of_try a, [], refl, refl, (nil, refl)))
step_outermost ends before next e = subst (OpenPath _) (some_is e) (before, refl)
step_outermost _ before next e = absurd (cc e)

pub path_step : {A : Type 0} (frames : List FrameKind) (roles : List (Role A)) (role : Role A) (next : List FrameKind) →
    OpenPath roles frames → frames_after frames role ≡ Some next → OpenPath (roles ++ role ∷ []) next
path_step [] roles role next path e = absurd (cc e)
path_step (kind ∷ []) roles role next (kind_is, (before, roles_are)) e =
    let at_role : OpenPath (walk_instructions before ++ role ∷ []) next = step_outermost role before next (ap (λ x. replacement x role) (sym kind_is) ∙ e) in
    subst (λ x. OpenPath (x ++ role ∷ []) next) (sym roles_are) at_role
path_step (kind ∷ inside ∷ frames) roles role next (kind_is, path) e =
    let m = mapped (λ (x : List FrameKind). kind ∷ x) (frames_after_in inside frames role) next e in
    subst (OpenPath (roles ++ role ∷ [])) m.2 (kind_is, step_inside frames inside roles role m.0 path m.1)

pub path_start : {A : Type 0} → OpenPath {A = A} [] (frame.Block ∷ [])
path_start = (refl, (nil, refl))
