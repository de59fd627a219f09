use Rattle.std.proofs.Common.{◌≡◌, Bool, true, false, List, [], ◌∷◌, ◌++◌, Option, Some, None, refl, sym, subst, ap, ◌∙◌, append_assoc}
use Rattle.std.proofs.lemmas.List.{append-nil}
use Rattle.std.specs.Prelude.{MatchOption, ⊤, IsSome, if◌then◌else◌}
use Rattle.std.specs.Option.{option_to_list, option_map}
use Rattle.wasm_grammar.specs.declared.frame_kind.FrameKind.{FrameKind}
use Rattle.wasm_grammar.specs.declared.frame_change.FrameChange.{FrameChange}
use Rattle.wasm_grammar.specs.declared.frame_change.FrameChange.TheVariants as change
use Rattle.wasm_grammar.specs.Role.{Role}
use Rattle.wasm_grammar.specs.Frames.{change_of, replaced, is_allowed, replacement, Allows, frames_changed, frames_after_in, frames_after, innermost_in, innermost, without_innermost_in, without_innermost}

abbrev some : {X : Type 0} → X → Option X
some x = Some x

pub innermost_in-push : (first : FrameKind) (inside : List FrameKind) (kind : FrameKind) →
    innermost_in first (inside ++ kind ∷ []) ≡ kind
innermost_in-push first [] kind = refl
innermost_in-push first (next ∷ inside) kind = innermost_in-push next inside kind

pub without_innermost_in-push : (first : FrameKind) (inside : List FrameKind) (kind : FrameKind) →
    without_innermost_in first (inside ++ kind ∷ []) ≡ first ∷ inside
without_innermost_in-push first [] kind = refl
without_innermost_in-push first (next ∷ inside) kind =
    ap (λ (x : List FrameKind). first ∷ x) (without_innermost_in-push next inside kind)

pub innermost-push : (frames : List FrameKind) (kind : FrameKind) → innermost (frames ++ kind ∷ []) ≡ Some kind
innermost-push [] kind = refl
innermost-push (first ∷ inside) kind = ap (λ (x : FrameKind). some x) (innermost_in-push first inside kind)

pub without_innermost-push : (frames : List FrameKind) (kind : FrameKind) →
    without_innermost (frames ++ kind ∷ []) ≡ frames
without_innermost-push [] kind = refl
without_innermost-push (first ∷ inside) kind = without_innermost_in-push first inside kind

pub whole_again : (kind : FrameKind) (inside : List FrameKind) →
    without_innermost_in kind inside ++ innermost_in kind inside ∷ [] ≡ kind ∷ inside
whole_again kind [] = refl
whole_again kind (next ∷ inside) = ap (λ (x : List FrameKind). kind ∷ x) (whole_again next inside)

pub innermost_not_empty : (frames : List FrameKind) (kind : FrameKind) → innermost frames ≡ Some kind → frames ≡ [] → ⊥
innermost_not_empty [] kind e h = cc e
innermost_not_empty (first ∷ inside) kind e h = cc h

abbrev after : FrameKind → List FrameKind → List FrameKind → List FrameKind
after kind inside end = without_innermost_in kind inside ++ end

map_same : {X : Type 0} (o : Option (List X)) → o ≡ option_map (λ (x : List X). [] ++ x) o
map_same None = refl
map_same (Some x) = refl

map_twice : {X Y Z : Type 0} (f : X → Y) (g : Y → Z) (o : Option X) →
    option_map g (option_map f o) ≡ option_map (λ x. g (f x)) o
map_twice f g None = refl
map_twice f g (Some x) = refl

pub step_by_innermost : {A : Type 0} (kind : FrameKind) (inside : List FrameKind) (role : Role A) →
    frames_after_in kind inside role ≡ option_map (λ (x : List FrameKind). without_innermost_in kind inside ++ x)
    (replacement (innermost_in kind inside) role)
step_by_innermost kind [] role = map_same (replacement kind role)
step_by_innermost kind (next ∷ inside) role =
    ap (option_map (λ (x : List FrameKind). kind ∷ x)) (step_by_innermost next inside role) ∙
    map_twice (after next inside) (λ (x : List FrameKind). kind ∷ x) (replacement (innermost_in next inside) role)

pub step_at : {A : Type 0} (frames : List FrameKind) (kind : FrameKind) (role : Role A) →
    innermost frames ≡ Some kind →
    frames_after frames role ≡ option_map (λ (x : List FrameKind). without_innermost frames ++ x) (replacement kind role)
step_at [] kind role e = absurd (cc e)
step_at (first ∷ inside) kind role e =
    let at : innermost_in first inside ≡ kind = cc e in
    step_by_innermost first inside role ∙ ap (λ (x : FrameKind). option_map (after first inside) (replacement x role)) at

is_some_map : {X Y : Type 0} (f : X → Y) (o : Option X) → IsSome o → IsSome (option_map f o)
is_some_map f None h = absurd (cc h)
is_some_map f (Some x) h = refl

pub may_step : {A : Type 0} (frames : List FrameKind) (kind : FrameKind) (role : Role A) →
    innermost frames ≡ Some kind → Allows kind role → IsSome (frames_after frames role)
may_step frames kind role e h =
    subst IsSome (sym (step_at frames kind role e)) (is_some_map (λ (x : List FrameKind). without_innermost frames ++ x) (replacement kind role) h)

pub may_not_step : {A : Type 0} (frames : List FrameKind) (kind : FrameKind) (role : Role A) →
    innermost frames ≡ Some kind → replacement kind role ≡ None → frames_after frames role ≡ None
may_not_step frames kind role e h =
    step_at frames kind role e ∙ ap (option_map (λ (x : List FrameKind). without_innermost frames ++ x)) h

-- An allowed role changes the frames as its change does.
allowed_replaced : (b : Bool) (next : List FrameKind) → IsSome (if b then Some next else None) → (if b then Some next else None) ≡ Some next
allowed_replaced true next h = refl
allowed_replaced false next h = absurd (cc h)

changed_in : (kind : FrameKind) (inside : List FrameKind) (c : FrameChange) →
    without_innermost_in kind inside ++ replaced (innermost_in kind inside) c ≡ frames_changed (kind ∷ inside) c
changed_in kind inside change.Stays = whole_again kind inside
changed_in kind inside (change.Opens inner) =
    sym (append_assoc (without_innermost_in kind inside) (innermost_in kind inside ∷ []) (inner ∷ [])) ∙
    ap (λ (x : List FrameKind). x ++ inner ∷ []) (whole_again kind inside)
changed_in kind inside (change.Turns other) = refl
changed_in kind inside change.Closes = append-nil (without_innermost_in kind inside)

some_of_map : {X Y : Type 0} (f : X → Y) (o : Option X) → IsSome (option_map f o) → IsSome o
some_of_map f None h = absurd (cc h)
some_of_map f (Some x) h = refl

pub frames_follow : {A : Type 0} (frames : List FrameKind) (role : Role A) → IsSome (frames_after frames role) →
    frames_after frames role ≡ Some (frames_changed frames (change_of role))
frames_follow [] role h = absurd (cc h)
frames_follow (kind ∷ inside) role h =
    let innermost_kind : FrameKind = innermost_in kind inside in
    let next : List FrameKind = replaced innermost_kind (change_of role) in
    let allowed : IsSome (replacement innermost_kind role) =
    some_of_map (after kind inside) (replacement innermost_kind role) (subst IsSome (step_by_innermost kind inside role) h) in
    step_by_innermost kind inside role ∙
    ap (option_map (after kind inside)) (allowed_replaced (is_allowed innermost_kind role) next allowed) ∙
    ap (λ (x : List FrameKind). some x) (changed_in kind inside (change_of role))

pub may_follow : {A : Type 0} (frames : List FrameKind) (kind : FrameKind) (role : Role A) → innermost frames ≡ Some kind → Allows kind role →
    frames_after frames role ≡ Some (frames_changed frames (change_of role))
may_follow frames kind role e h = frames_follow frames role (may_step frames kind role e h)

pub innermost_view : (around : List FrameKind) (current : Option FrameKind) (frames : List FrameKind) →
    MatchOption current (around ≡ []) (λ _. ⊤) → around ++ option_to_list current ≡ frames → current ≡ innermost frames
innermost_view around None frames h e = let none_open : frames ≡ [] = sym e ∙ ap (λ (x : List FrameKind). x ++ []) h in ap innermost (sym none_open)
innermost_view around (Some kind) frames h e = sym (ap innermost (sym e) ∙ innermost-push around kind)

pub without_innermost_view : (around : List FrameKind) (current : Option FrameKind) (frames : List FrameKind) →
    MatchOption current (around ≡ []) (λ _. ⊤) → around ++ option_to_list current ≡ frames →
    around ≡ without_innermost frames
without_innermost_view around None frames h e = let none_open : frames ≡ [] = sym e ∙ ap (λ (x : List FrameKind). x ++ []) h in h ∙
    ap without_innermost (sym none_open)
without_innermost_view around (Some kind) frames h e =
    sym (ap without_innermost (sym e) ∙ without_innermost-push around kind)
