-- The algorithm and the grammar have the same frames.
use Rattle.std.proofs.Common.{◌≡◌, if◌then◌else◌, List, [], ◌∷◌, ◌++◌, Some, None, refl, sym, ap, subst, ◌∙◌, append_assoc}
use Rattle.std.proofs.lemmas.List.{append-nil}
use Rattle.std.specs.Option.{option_map, option_and_then}
use Rattle.wasm_grammar.specs.declared.frame_kind.FrameKind.TheVariants as frame_kind
use Rattle.wasm_grammar.specs.Role.{Role, plain, opens, opens_if, turns_else, ends}
use Rattle.wasm_grammar.specs.Tree.{Expression, walk}
use Rattle.wasm_grammar.specs.Frames.{replacement, frames_after, frames_along}
use Rattle.wasm_grammar.specs.Beginning.{IsWalk}
use Rattle.wasm_grammar.proofs.Accepts.{frames_after_at}
use Rattle.wasm_grammar.proofs.Runs.{tree_of}
use Rattle.wasm_typing.specs.declared.value_type.ValueType.TheVariants.{I32}
use Rattle.wasm_typing.specs.Types.{Stack, FunctionType}
use Rattle.wasm_typing.specs.Matching.{IsOrder}
use Rattle.wasm_typing.specs.Rules.{Context, order_of, construct_type}
use Rattle.wasm_typing.specs.Typing.{ExpressionTyped}
use Rattle.wasm_typing.specs.Checking.{state, pop, run_plain, closes}
use Rattle.wasm_typing.specs.Steps.{kind_of, kinds, Construct, of_nest, of_if, of_else, Frame, within, set_in, opened, with_now, may_end, receives, turned, entered, step, steps, started, Accepts}
use Rattle.wasm_typing.proofs.Stacks.{chosen, mapped, bound}
use Rattle.wasm_typing.proofs.Walks.{accepted_typed, typed_accepted}

unchanged : (leaves : Stack) (outer : List Frame) → kinds (receives leaves outer) ≡ kinds outer
unchanged leaves [] = refl
unchanged leaves (f ∷ outer) = refl

grows : {A : Type 0} → (f inner : Frame) (outer : List Frame) (role : Role A) (next : List Frame) →
    replacement (kind_of f.construct) role ≡ Some (kind_of f.construct ∷ kind_of inner.construct ∷ []) → kinds next ≡ (kinds outer ++ kind_of f.construct ∷ []) ++ kind_of inner.construct ∷ [] →
    frames_after (kinds outer ++ kind_of f.construct ∷ []) role ≡ Some (kinds next)
grows f inner outer role next e is =
    frames_after_at (kinds outer) (kind_of f.construct) role (kind_of f.construct ∷ kind_of inner.construct ∷ []) e ∙
    ap (λ l. Some l) (sym (append_assoc (kinds outer) (kind_of f.construct ∷ []) (kind_of inner.construct ∷ [])) ∙ sym is)

turns : (A : Type 0) (construct : Construct) (f : FunctionType) (outer next : List Frame) → turned construct f outer ≡ Some next →
    frames_after {A = A} (kinds outer ++ kind_of construct ∷ []) turns_else ≡ Some (kinds next)
turns A of_if f outer next e =
    frames_after_at (kinds outer) frame_kind.If turns_else (frame_kind.Else ∷ []) refl ∙
    ap (λ l. Some (kinds l)) (let same : opened of_else f (set_in outer) ∷ outer ≡ next = cc e in same)
turns A (of_nest n) f outer next e = absurd (cc e)
turns A of_else f outer next e = absurd (cc e)

same_step : {A : Type 0} → (C : Context A) (frames : List Frame) (role : Role A) (next : List Frame) → step C frames role ≡ Some next → frames_after (kinds frames) role ≡ Some (kinds next)
same_step C [] role next e = absurd (cc e)
same_step C (f ∷ outer) (plain op) next e =
    let m = mapped (λ now. with_now f now ∷ outer) (run_plain (within C (f ∷ outer)) op f.now) next e in
    frames_after_at (kinds outer) (kind_of f.construct) (plain op) (kind_of f.construct ∷ []) refl ∙ ap (λ l. Some (kinds l)) m.2
same_step C (f ∷ outer) (opens n op) next e =
    let b = bound (λ (g : FunctionType). entered (order_of C) (of_nest n) g.takes g f outer) (construct_type (within C (f ∷ outer)) op) next e in
    let m = mapped (λ rest. opened (of_nest n) b.0 f.now.set ∷ with_now f (state rest f.now.unreachable f.now.set) ∷ outer) (pop (order_of C) b.0.takes f.now.operands f.now.unreachable) next b.2 in
    grows f (opened (of_nest n) b.0 f.now.set) outer (opens n op) next refl (ap kinds (sym m.2))
same_step C (f ∷ outer) (opens_if op) next e =
    let b = bound (λ (g : FunctionType). entered (order_of C) of_if (I32 ∷ g.takes) g f outer) (construct_type (within C (f ∷ outer)) op) next e in
    let m = mapped (λ rest. opened of_if b.0 f.now.set ∷ with_now f (state rest f.now.unreachable f.now.set) ∷ outer) (pop (order_of C) (I32 ∷ b.0.takes) f.now.operands f.now.unreachable) next b.2 in
    grows f (opened of_if b.0 f.now.set) outer (opens_if op) next refl (ap kinds (sym m.2))
same_step {A} C (f ∷ outer) turns_else next e =
    let c = chosen (closes (order_of C) f.type.leaves f.now) (turned f.construct f.type outer) next e in
    turns A f.construct f.type outer next c.1
same_step C (f ∷ outer) ends next e =
    let c = chosen (closes (order_of C) f.type.leaves f.now) (if may_end (order_of C) f.construct f.type then Some (receives f.type.leaves outer) else None) next e in
    let d = chosen (may_end (order_of C) f.construct f.type) (Some (receives f.type.leaves outer)) next c.1 in
    let same : receives f.type.leaves outer ≡ next = cc d.1 in
    frames_after_at (kinds outer) (kind_of f.construct) ends [] refl ∙
    ap (λ l. Some l) (append-nil (kinds outer) ∙ sym (unchanged f.type.leaves outer) ∙ ap kinds same)
same_step C (f ∷ outer) _ next e = absurd (cc e)

pub same_steps : {A : Type 0} → (C : Context A) (frames : List Frame) (roles : List (Role A)) (next : List Frame) → steps C frames roles ≡ Some next →
    frames_along (kinds frames) roles ≡ Some (kinds next)
same_steps C frames [] next e = ap (option_map kinds) e
same_steps C frames (role ∷ roles) next e =
    let b = bound (λ next. steps C next roles) (step C frames role) next e in
    ap (option_and_then (λ next. frames_along next roles)) (same_step C frames role b.0 b.1) ∙ same_steps C b.0 roles next b.2

pub accepted_walk : {A : Type 0} → (C : Context A) (results : Stack) (roles : List (Role A)) → Accepts C results roles → IsWalk roles
accepted_walk C results roles e = tree_of roles (same_steps C (started results) roles [] e)

pub accepted_tree : {A : Type 0} → (C : Context A) → IsOrder (order_of C) → (results : Stack) (roles : List (Role A)) → Accepts C results roles → (tree : Expression A) × (roles ≡ walk tree) × ExpressionTyped C tree results
accepted_tree C ok results roles e =
    let w = accepted_walk C results roles e in
    (w.0, w.1, accepted_typed C ok results w.0 (subst (λ r. Accepts C results r) w.1 e))

pub tree_accepted : {A : Type 0} → (C : Context A) → IsOrder (order_of C) → (results : Stack) (roles : List (Role A)) (tree : Expression A) → roles ≡ walk tree → ExpressionTyped C tree results → Accepts C results roles
tree_accepted C ok results roles tree same d = subst (λ r. Accepts C results r) (sym same) (typed_accepted C ok results tree d)
