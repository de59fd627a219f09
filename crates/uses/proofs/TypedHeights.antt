-- An operator that determines its types finds its operands in a typed body, and changes the height by its
-- signature.
use Rattle.std.proofs.Common.{◌≡◌, ◌↔◌, ◌<◌, ◌≤◌, ℕ, ◌+◌, ◌-◌, Bool, true, false, if◌then◌else◌, List, [], ◌∷◌, ◌++◌, length, Option, Some, None, refl, sym, ap, subst, ◌∙◌, arith, length-append, get_or, drop}
use Rattle.std.specs.Option.{option_map, option_and_then}
use Rattle.wasm_operators.specs.below.declared.features.WasmFeatures.{WasmFeatures}
use Rattle.wasm_operators.specs.below.declared.types.ValType.{ValType}
use Rattle.wasm_operators.specs.below.Source.{Source, Reader, reader_of, source_of}
use Rattle.wasm_operators.specs.Body.{EncodesBody}
use Rattle.wasm_operators.specs.Expression.{Placed, operators}
use Rattle.wasm_operators.specs.Locals.{Declaration}
use Rattle.wasm_operators.specs.grammar.Role.{Role, block, plain}
use Rattle.wasm_operators.specs.grammar.Tree.{Expression, walk}
use Rattle.wasm_operators.specs.instr.declared.operator.Operator.{Operator}
use Rattle.wasm_operators.specs.instr.Roles.{role_of, roles_of}
use Rattle.wasm_signatures.specs.Own.{operator_typing}
use Rattle.wasm_signatures.specs.Types.{InstructionType}
use Rattle.wasm_signatures.specs.Types.{fixed as determined}
use Rattle.wasm_typing.specs.Types.{Stack}
use Rattle.wasm_typing.specs.Matching.{TypeOrder, IsOrder, matches}
use Rattle.wasm_typing.specs.Typing.{ExpressionTyped}
use Rattle.wasm_typing.specs.Rules.{Context, Rule, fixed, invalid, is_ready, needs, sets, order_of, rule_of}
use Rattle.wasm_typing.specs.Checking.{State, state, pop, run_rule, run_plain, unset}
use Rattle.wasm_typing.specs.Steps.{Accepts, Frame, of_nest, opened, labels_of, with_now, within, step, steps}
use Rattle.wasm_check_control.specs.Environment.{Environment, stack_of}
use Rattle.wasm_check_control.specs.State.{outermost}
use Rattle.wasm_check_operators.specs.Language.{rules_of}
use Rattle.wasm_check_locals.specs.Locals.{in_function, locals_of}
use Rattle.wasm_check.specs.Bodies.{IsTypedBody}
use Rattle.uses.specs.Input.{input}
use Rattle.uses.specs.TypedHeights.{HasHeight}
use Rattle.uses.proofs.Teed.{first_of_rest}
use Rattle.uses.proofs.FixedRules.{HasCounts, counts, is_plain}

chosen : {A : Type 0} (test : Bool) (o : Option A) (a : A) → (if test then o else None) ≡ Some a → o ≡ Some a
chosen true o a is = is
chosen false o a is = absurd (cc is)

mapped : {A B : Type 0} (f : A → B) (o : Option A) (b : B) → option_map f o ≡ Some b → (a : A) × (o ≡ Some a) × (f a ≡ b)
mapped f None b is = absurd (cc is)
mapped f (Some a) b is = (a, refl, cc is)

bound : {A B : Type 0} (f : A → Option B) (o : Option A) (b : B) → option_and_then f o ≡ Some b → (a : A) × (o ≡ Some a) × (f a ≡ Some b)
bound f None b is = absurd (cc is)
bound f (Some a) b is = (a, refl, is)

-- Reachable code takes operands that are there.
pop_height : (O : TypeOrder) (vs ks rest : Stack) → pop O vs ks false ≡ Some rest → length vs + length rest ≡ length ks
pop_height O [] ks rest is =
    let same : ks ≡ rest = cc is in
    let long : length ks ≡ length rest = ap length same in
    omega (arith, long)
pop_height O (v ∷ vs) [] rest is = absurd (cc is)
pop_height O (v ∷ vs) (k ∷ ks) rest is =
    let more = pop_height O vs ks rest (chosen (matches O k v) (pop O vs ks false) rest is) in
    omega (arith, more)

-- What an instruction type does to the height, and whether code is reachable after it.
record Changes (t : InstructionType) (k next : State) : Type 0 where
  reachable : next.unreachable ≡ false
  enough : length t.takes ≤ length k.operands
  height : length next.operands + length t.takes ≡ length k.operands + length t.leaves

rule_height : (O : TypeOrder) (r : Rule) (t : InstructionType) (k next : State) → HasCounts r t → k.unreachable ≡ false → run_rule O r k ≡ Some next → Changes t k next
rule_height O (fixed takes leaves) t k next (a, b) reach is =
    let (rest, popped, same) = mapped (λ rest. state (leaves ++ rest) k.unreachable k.set) (pop O takes k.operands k.unreachable) next is in
    let p = pop_height O takes k.operands rest (subst (λ u. pop O takes k.operands u ≡ Some rest) reach popped) in
    let l : length next.operands ≡ length leaves + length rest = ap (λ (s : State). length s.operands) (sym same) ∙ length-append leaves rest in
    record {
      reachable = ap (λ (s : State). s.unreachable) (sym same) ∙ reach;
      enough = omega (arith, p, a);
      height = omega (arith, p, l, a, b);
    }
rule_height O invalid t k next h reach is = absurd (cc is)
rule_height O r t k next h reach is = absurd h

plain_height : (E : Environment) (f : Frame) (op : Operator) (t : InstructionType) (next : State) → operator_typing op ≡ determined t → f.now.unreachable ≡ false →
    run_plain (within (outermost (rules_of E)) (f ∷ [])) op f.now ≡ Some next → Changes t f.now next
plain_height E f op t next typing reach is =
    let C = within (outermost (rules_of E)) (f ∷ []) in
    let run = run_rule (order_of C) (rule_of C op) f.now in
    let after = λ (s : State). state s.operands s.unreachable (unset C (sets C op) f.now.set ++ f.now.set) in
    let (mid, ran, same) = mapped after run next (chosen (is_ready C (needs C op) f.now.set) (option_map after run) next is) in
    let c = rule_height (order_of C) (rule_of C op) t f.now mid (counts E (labels_of (f ∷ []) ++ []) op t typing) reach ran in
    let whole : Changes t f.now (after mid) = record { reachable = c.reachable; enough = c.enough; height = c.height } in
    subst (Changes t f.now) same whole

-- After such an operator.
pub next_height : (E : Environment) (height : ℕ) (op : Operator) (left : List Operator) (t : InstructionType) → operator_typing op ≡ determined t →
    HasHeight E height (op ∷ left) → (length t.takes ≤ height) × HasHeight E (height - length t.takes + length t.leaves) left
next_height E height op left t typing h =
    let C = outermost (rules_of E) in
    let f = h.frame in
    let (frames, stepped, accepted) = bound (λ next. steps C next (roles_of left)) (step C (f ∷ []) (role_of op)) [] h.accepted in
    let plainly : step C (f ∷ []) (plain op) ≡ Some frames = subst (λ r. step C (f ∷ []) r ≡ Some frames) (is_plain op t typing) stepped in
    let (now, ran, same) = mapped (λ (s : State). with_now f s ∷ []) (run_plain (within C (f ∷ [])) op f.now) frames plainly in
    let c = plain_height E f op t now typing h.reachable ran in
    let le = c.enough in
    let sum = c.height in
    let high = h.high in (
      omega (arith, le, high),
      record {
        frame = with_now f now;
        reachable = c.reachable;
        high = omega (arith, le, sum, high);
        accepted = subst (λ fs. steps C fs (roles_of left) ≡ Some []) (sym same) accepted;
      },
    )

-- What the laws `one_body` and `accepts_what_is_typed` state.
abbrev pub IsOneBody : Type 0
IsOneBody = (s : Source) (declarations others : List Declaration) (first second : Placed) → EncodesBody s declarations first → EncodesBody s others second →
    (declarations ≡ others) × (first ≡ second)

abbrev pub AcceptsTyped : Type 0
AcceptsTyped = (C : Context Operator) (results : Stack) (roles : List (Role Operator)) → IsOrder (order_of C) →
    (Accepts C results roles ↔ ((tree : Expression Operator) × (roles ≡ walk tree) × ExpressionTyped C tree results))

-- Before the first operator of a typed body.
pub first_height : (E : Environment) (params results : List ValType) (r : Reader) (f : WasmFeatures) (bytes : List ℕ) (ds : List Declaration) (ps : Placed) →
    IsOneBody → AcceptsTyped → IsOrder E.order → r ≡ reader_of f 0 bytes → IsTypedBody E params results (source_of r) → EncodesBody (input f bytes) ds ps →
    HasHeight (in_function E params results (locals_of ds)) 0 (operators ps)
first_height E params results r f bytes ds ps one accepts ok is typed e =
    let here = subst (λ z. IsTypedBody E params results (source_of z)) is typed in
    let same = one (input f bytes) here.declarations ds here.placed ps here.encodes e in
    let F = in_function E params results (locals_of here.declarations) in
    let accepted = (accepts (outermost (rules_of F)) (stack_of results) (roles_of (operators here.placed)) ok).1 (here.tree, here.only.0, here.typed) in
    let first : HasHeight F 0 (operators here.placed) =
    record { frame = opened (of_nest block) (record { takes = []; leaves = stack_of results }) []; reachable = refl; high = refl; accepted = accepted } in
    subst (λ d. HasHeight (in_function E params results (locals_of d)) 0 (operators ps)) same.0 (subst (λ p. HasHeight F 0 (operators p)) same.1 first)

-- After the operator at a place.
pub height_on : (E : Environment) (height at : ℕ) (ps : Placed) (p : Operator × ℕ) (t : InstructionType) → at < length ps → p ≡ get_or ps at p →
    determined t ≡ operator_typing p.0 → HasHeight E height (operators (drop at ps)) →
    (length t.takes ≤ height) × HasHeight E (height - length t.takes + length t.leaves) (operators (drop (at + 1) ps))
height_on E height at ps p t lt is typing h =
    next_height E height p.0 (operators (drop (at + 1) ps)) t (sym typing) (subst (HasHeight E height) (first_of_rest ps at p lt is) h)
