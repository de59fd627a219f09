-- The algorithm fails at the first operator after which no typed expression continues.
use Rattle.std.proofs.Common.{◌≡◌, ℕ, true, if◌then◌else◌, List, [], ◌∷◌, ◌++◌, map, Some, None, refl, sym, ap, subst, ◌∙◌}
use Rattle.std.specs.Option.{option_map, option_and_then}
use Rattle.std.proofs.lemmas.List.{map-append}
use Rattle.wasm_grammar.specs.Role.{Role, plain, turns_else, ends}
use Rattle.wasm_typing.specs.Types.{Stack, FunctionType}
use Rattle.wasm_typing.specs.Matching.{TypeOrder, IsOrder}
use Rattle.wasm_typing.specs.Rules.{Context, order_of, jumps, sets, is_ready}
use Rattle.wasm_typing.specs.Checking.{State, state, pop, run_rule, run_plain, unset, closes, is_none_left}
use Rattle.wasm_typing.specs.Steps.{Ending, jump, turn, close, role_of_ending, Construct, of_nest, of_if, of_else, Frame, within, set_in, opened, with_now, may_end, receives, step, steps, started, IsJump, Accepts, Continues, BeginsNone}
use Rattle.wasm_typing.proofs.Walks.{through, typed_accepted}

pub steps-append : {A : Type 0} → (C : Context A) (frames : List Frame) (a b : List (Role A)) →
    steps C frames (a ++ b) ≡ option_and_then (λ next. steps C next b) (steps C frames a)
steps-append C frames [] b = refl
steps-append C frames (role ∷ a) b =
    through (step C frames role) (λ next. steps C next a) (λ next. steps C next b) (λ next. steps C next (a ++ b)) (λ next. steps-append C next a b)

-- In unreachable code any operands may be held.
any_left : (O : TypeOrder) (s : Stack) → pop O s [] true ≡ Some []
any_left O [] = refl
any_left O (v ∷ s) = any_left O s

any_closes : (O : TypeOrder) (s : Stack) (set : List ℕ) → closes O s (state [] true set) ≡ true
any_closes O s set = ap is_none_left (any_left O s)

-- What a jump leads to: which locals are set then does not matter.
runs_jump : {A : Type 0} (D : Context A) (op : A) (k : State) → D.rules.rule D.labels op ≡ jumps [] → D.rules.needs op ≡ None →
    run_plain D op k ≡ Some (state [] true (unset D (sets D op) k.set ++ k.set))
runs_jump D op k j n =
    ap (λ o. if is_ready D o k.set then option_map (λ (next : State). state next.operands next.unreachable (unset D (sets D op) k.set ++ k.set)) (run_rule (order_of D) (D.rules.rule D.labels op) k) else None) n ∙
    ap (λ r. option_map (λ (next : State). state next.operands next.unreachable (unset D (sets D op) k.set ++ k.set)) (run_rule (order_of D) r k)) j

jumps_step : {A : Type 0} (C : Context A) (op : A) → IsJump C op → (frame : Frame) (outer : List Frame) →
    (set : List ℕ) × ((roles : List (Role A)) → steps C (frame ∷ outer) (plain op ∷ roles) ≡ steps C (with_now frame (state [] true set) ∷ outer) roles)
jumps_step {A} C op is frame outer =
    let D : Context A = within C (frame ∷ outer) in (
      unset D (sets D op) frame.now.set ++ frame.now.set,
      λ roles. ap (λ o. option_and_then (λ (next : List Frame). steps C next roles) (option_map (λ now. with_now frame now ∷ outer) o))
          (runs_jump D op frame.now (is.jumps_always D.labels) is.needs_none),
    )

-- how a construct can be ended
ending : Construct → List Ending
ending (of_nest n) = jump ∷ close ∷ []
ending of_if = jump ∷ turn ∷ jump ∷ close ∷ []
ending of_else = jump ∷ close ∷ []

ends_step : {A : Type 0} (C : Context A) (frame : Frame) (outer : List Frame) (set : List ℕ) → may_end (order_of C) frame.construct frame.type ≡ true →
    steps C (with_now frame (state [] true set) ∷ outer) (ends ∷ []) ≡ Some (receives frame.type.leaves outer)
ends_step C frame outer set e =
    ap (λ z. option_and_then (λ (next : List Frame). Some next) (if z then (if may_end (order_of C) frame.construct frame.type then Some (receives frame.type.leaves outer) else None) else None))
    (any_closes (order_of C) frame.type.leaves set) ∙
    ap (λ z. option_and_then (λ (next : List Frame). Some next) (if z then Some (receives frame.type.leaves outer) else None)) e

ending_ends : {A : Type 0} (C : Context A) (op : A) → IsJump C op → (construct : Construct) (f : FunctionType) (now : State) (outer : List Frame) →
    steps C (record { construct = construct; type = f; now = now } ∷ outer) (map (role_of_ending op) (ending construct)) ≡ Some (receives f.leaves outer)
unfolding ending
ending_ends C op is (of_nest n) f now outer =
    let j = jumps_step C op is (record { construct = of_nest n; type = f; now = now }) outer in
    j.1 (ends ∷ []) ∙ ends_step C (record { construct = of_nest n; type = f; now = now }) outer j.0 refl
ending_ends C op is of_else f now outer =
    let j = jumps_step C op is (record { construct = of_else; type = f; now = now }) outer in
    j.1 (ends ∷ []) ∙ ends_step C (record { construct = of_else; type = f; now = now }) outer j.0 refl
ending_ends C op is of_if f now outer =
    let j = jumps_step C op is (record { construct = of_if; type = f; now = now }) outer in
    let k = jumps_step C op is (opened of_else f (set_in outer)) outer in
    j.1 (turns_else ∷ plain op ∷ ends ∷ []) ∙
    ap (λ z. option_and_then (λ (next : List Frame). steps C next (plain op ∷ ends ∷ [])) (if z then Some (opened of_else f (set_in outer) ∷ outer) else None)) (any_closes (order_of C) f.leaves j.0) ∙
    k.1 (ends ∷ []) ∙
    ends_step C (record { construct = of_else; type = f; now = state [] true k.0 }) outer k.0 refl

-- the number of frames bounds the number of operators to the end
all_end : {A : Type 0} (C : Context A) (op : A) → IsJump C op →
    (outer : List Frame) (frame : Frame) → (more : List Ending) × (steps C (frame ∷ outer) (map (role_of_ending op) more) ≡ Some [])
all_end C op is [] frame = (ending frame.construct, ending_ends C op is frame.construct frame.type frame.now [])
all_end C op is (next ∷ outer) frame =
    let rest = all_end C op is outer (with_now next (state (frame.type.leaves ++ next.now.operands) next.now.unreachable next.now.set)) in (
      ending frame.construct ++ rest.0,
      ap (steps C (frame ∷ next ∷ outer)) (map-append (role_of_ending op) (ending frame.construct) rest.0) ∙
          steps-append C (frame ∷ next ∷ outer) (map (role_of_ending op) (ending frame.construct)) (map (role_of_ending op) rest.0) ∙
          ap (option_and_then (λ next. steps C next (map (role_of_ending op) rest.0))) (ending_ends C op is frame.construct frame.type frame.now (next ∷ outer)) ∙ rest.1,
    )

pub goes_on : {A : Type 0} (C : Context A) (op : A) → IsJump C op →
    (results : Stack) (roles : List (Role A)) (frames : List Frame) →
    steps C (started results) roles ≡ Some frames → Continues C op results roles
goes_on C op is results roles [] e = ([], steps-append C (started results) roles [] ∙ ap (option_and_then (λ next. steps C next [])) e)
goes_on C op is results roles (frame ∷ outer) e =
    let rest = all_end C op is outer frame in
    (rest.0, steps-append C (started results) roles (map (role_of_ending op) rest.0) ∙ ap (option_and_then (λ next. steps C next (map (role_of_ending op) rest.0))) e ∙ rest.1)

pub begins_none : {A : Type 0} → (C : Context A) → IsOrder (order_of C) → (results : Stack) (roles : List (Role A)) → steps C (started results) roles ≡ None → BeginsNone C results roles
begins_none C ok results roles e = λ more tree same typed.
    let a : Accepts C results (roles ++ more) = subst (λ x. Accepts C results x) (sym same) (typed_accepted C ok results tree typed) in
    absurd (cc (sym (ap (option_and_then (λ next. steps C next more)) e) ∙ sym (steps-append C (started results) roles more) ∙ a))
