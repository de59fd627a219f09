-- The frame rules and the grammar of expressions agree on each list of roles.
use Rattle.std.proofs.Common.{◌≡◌, ℕ, zero, suc, List, [], ◌∷◌, ◌++◌, replicate, length, Option, Some, None, refl, sym, subst, ap, ◌∙◌, append_assoc}
use Rattle.std.proofs.lemmas.List.{append-nil}
use Rattle.std.specs.Prelude.{IsSome}
use Rattle.std.specs.Option.{option_map, option_and_then}
use Rattle.wasm_grammar.specs.declared.frame_kind.FrameKind.{FrameKind}
use Rattle.wasm_grammar.specs.declared.frame_kind.FrameKind.TheVariants as frame
use Rattle.wasm_grammar.specs.Role.{Role, ends}
use Rattle.wasm_grammar.specs.Tree.{Expression, walk}
use Rattle.wasm_grammar.specs.Frames.{frames_after_in, frames_after, frames_along}
use Rattle.wasm_grammar.specs.Beginning.{IsWalk, BeginsWalk}
use Rattle.wasm_grammar.specs.OpenPath.{OpenPath}
use Rattle.wasm_grammar.proofs.Accepts.{run_walk}
use Rattle.wasm_grammar.proofs.Steps.{path_step, path_start}
use Rattle.wasm_grammar.proofs.Paths.{run_path}

pub bound : {X Y : Type 0} (f : X → Option Y) (o : Option X) (y : Y) →
    option_and_then f o ≡ Some y → (x : X) × (o ≡ Some x) × (f x ≡ Some y)
bound f None y e = absurd (cc e)
bound f (Some x) y e = (x, refl, e)

pub some_of : {X : Type 0} (o : Option X) → IsSome o → (x : X) × (o ≡ Some x)
some_of None h = absurd (cc h)
some_of (Some x) h = (x, refl)

pub IsSome_of : {X : Type 0} (o : Option X) (x : X) → o ≡ Some x → IsSome o
IsSome_of o x e = subst IsSome (sym e) refl

chained : {X Y Z : Type 0} (f : X → Option Y) (g : Y → Option Z) (h : X → Option Z) →
    ((x : X) → h x ≡ option_and_then g (f x)) → (o : Option X) →
    option_and_then h o ≡ option_and_then g (option_and_then f o)
chained f g h e None = refl
chained f g h e (Some x) = e x

pub frames_along-append : {A : Type 0} (frames : List FrameKind) (roles more : List (Role A)) →
    frames_along frames (roles ++ more) ≡ option_and_then (λ next. frames_along next more) (frames_along frames roles)
frames_along-append frames [] more = refl
frames_along-append frames (role ∷ roles) more =
    chained (λ next. frames_along next roles) (λ next. frames_along next more) (λ next. frames_along next (roles ++ more))
    (λ next. frames_along-append next roles more) (frames_after frames role)

pub path_run : {A : Type 0} (more : List (Role A)) (frames : List FrameKind) (roles : List (Role A))
    (next : List FrameKind) →
    OpenPath roles frames → frames_along frames more ≡ Some next → OpenPath (roles ++ more) next
path_run [] frames roles next path e =
    subst (λ x. OpenPath x next) (sym (append-nil roles)) (subst (OpenPath roles) (cc e) path)
path_run (role ∷ more) frames roles next path e =
    let b = bound (λ between. frames_along between more) (frames_after frames role) next e in
    let longer = path_run more b.0 (roles ++ role ∷ []) next (path_step frames roles role b.0 path b.1) b.2 in
    subst (λ x. OpenPath x next) (append_assoc roles (role ∷ []) more) longer

pub path_of : {A : Type 0} (roles : List (Role A)) (frames : List FrameKind) →
    frames_along (frame.Block ∷ []) roles ≡ Some frames → OpenPath roles frames
path_of roles frames e = path_run roles (frame.Block ∷ []) [] frames path_start e

pub tree_of : {A : Type 0} (roles : List (Role A)) → frames_along (frame.Block ∷ []) roles ≡ Some [] → IsWalk roles
tree_of roles e = path_of roles [] e

pub walk_runs_out : {A : Type 0} (roles : List (Role A)) (tree : Expression A) →
    roles ≡ walk tree → frames_along (frame.Block ∷ []) roles ≡ Some []
walk_runs_out roles tree e = ap (frames_along (frame.Block ∷ [])) e ∙ run_walk tree

fewer : (A : Type 0) (kind : FrameKind) (inside : List FrameKind) →
    (next : List FrameKind) × (frames_after_in {A = A} kind inside ends ≡ Some next) × (length next ≡ length inside)
fewer A kind [] = ([], refl, refl)
fewer A kind (first ∷ inside) = let f = fewer A first inside in (kind ∷ f.0, ap (option_map (λ (x : List FrameKind). kind ∷ x)) f.1, ap suc f.2)

pub ends_close : (A : Type 0) (n : ℕ) (frames : List FrameKind) →
    length frames ≡ n → frames_along frames (replicate {A = Role A} n ends) ≡ Some []
ends_close A zero [] e = refl
ends_close A zero (kind ∷ inside) e = absurd (cc e)
ends_close A (suc n) [] e = absurd (cc e)
ends_close A (suc n) (kind ∷ inside) e =
    let f = fewer A kind inside in
    ap (option_and_then (λ next. frames_along next (replicate n ends))) f.1 ∙ ends_close A n f.0 (f.2 ∙ cc e)

pub ends_complete : {A : Type 0} (roles : List (Role A)) (frames : List FrameKind) →
    frames_along (frame.Block ∷ []) roles ≡ Some frames → IsWalk (roles ++ replicate (length frames) ends)
ends_complete {A} roles frames e =
    let n = length frames in
    tree_of (roles ++ replicate n ends) (frames_along-append (frame.Block ∷ []) roles (replicate n ends) ∙
    ap (option_and_then (λ next. frames_along next (replicate n ends))) e ∙ ends_close A n frames refl)

pub run_begins : {A : Type 0} (roles : List (Role A)) (frames : List FrameKind) →
    frames_along (frame.Block ∷ []) roles ≡ Some frames → BeginsWalk roles
run_begins roles frames e = let t = ends_complete roles frames e in (replicate (length frames) ends, t.0, t.1)

pub beginning_runs : {A : Type 0} (roles : List (Role A)) →
    BeginsWalk roles → (frames : List FrameKind) × (frames_along (frame.Block ∷ []) roles ≡ Some frames)
beginning_runs roles (more, tree, e) =
    let b = bound (λ next. frames_along next more) (frames_along (frame.Block ∷ []) roles) [] (sym (frames_along-append (frame.Block ∷ []) roles more) ∙
    walk_runs_out (roles ++ more) tree e) in
    (b.0, b.1)

pub begins_of_run : {A : Type 0} (roles : List (Role A)) →
    IsSome (frames_along (frame.Block ∷ []) roles) → BeginsWalk roles
begins_of_run roles h = let s = some_of (frames_along (frame.Block ∷ []) roles) h in run_begins roles s.0 s.1

pub IsSome_of_begins : {A : Type 0} (roles : List (Role A)) →
    BeginsWalk roles → IsSome (frames_along (frame.Block ∷ []) roles)
IsSome_of_begins roles begins = let r = beginning_runs roles begins in IsSome_of (frames_along (frame.Block ∷ []) roles) r.0 r.1

pub path_runs_on : {A : Type 0} (frames : List FrameKind) (roles more : List (Role A)) →
    OpenPath roles frames → BeginsWalk (roles ++ more) →
    (next : List FrameKind) × (frames_along frames more ≡ Some next)
path_runs_on frames roles more path begins =
    let r = beginning_runs (roles ++ more) begins in (
      r.0,
      sym (ap (option_and_then (λ next. frames_along next more)) (run_path frames roles path)) ∙ sym (frames_along-append (frame.Block ∷ []) roles more) ∙
          r.1,
    )
