-- The algorithm takes the same steps along operators that are equal by the targets of branch tables.
use Rattle.std.proofs.Common.{◌≡◌, List, [], ◌∷◌, ◌++◌, Option, Some, None, inl, inr, refl, sym, ap, ◌∙◌}
use Rattle.std.specs.Option.{option_map, option_and_then}
use Rattle.wasm_grammar.specs.Role.{Role, plain}
use Rattle.wasm_imm.specs.BranchTables.{BranchTable, numbers_of}
use Rattle.wasm_imm.proofs.BranchTables.{numbers_are}
use Rattle.wasm_instr.specs.declared.operator.Operator.{Operator}
use Rattle.wasm_instr.specs.declared.operator.Operator.TheVariants as operator
use Rattle.wasm_instr.specs.Roles.{role_of, roles_of}
use Rattle.wasm_typing.specs.Types.{Stack}
use Rattle.wasm_typing.specs.Rules.{Rule}
use Rattle.wasm_typing.specs.Checking.{State, state, run_rule}
use Rattle.wasm_typing.specs.Steps.{Frame, labels_of, with_now, step, steps}
use Rattle.wasm_check_control.specs.Environment.{Environment}
use Rattle.wasm_check_control.specs.State.{outermost}
use Rattle.wasm_check_control.specs.Switches.{switch}
use Rattle.wasm_check_operators.specs.Language.{rule, rules_of}
use Rattle.wasm_encode.specs.Shortened.{HaveSameTargets, EqualByTargets, AreEqualByTargets}

-- Branch tables with the same targets have the same rule.
same_rule : (E : Environment) (labels : List Stack) (t u : BranchTable) → HaveSameTargets t u →
    rule E labels (operator.BrTable t) ≡ rule E labels (operator.BrTable u)
same_rule E labels t u same =
    let numbers : numbers_of t.targets ≡ numbers_of u.targets =
    numbers_are t.targets same.numbers same.targets.1 ∙ sym (numbers_are u.targets same.numbers same.others.1) in
    ap (λ ns. switch labels ns t.default) numbers ∙ ap (switch labels (numbers_of u.targets)) same.default

-- The frames after a plain operator with this rule, which needs and sets no local.
abbrev after_rule : Environment → Frame → List Frame → Rule → Option (List Frame)
after_rule E f outer r =
    option_map (λ now. with_now f now ∷ outer) (option_map (λ (next : State). state next.operands next.unreachable f.now.set) (run_rule E.order r f.now))

same_table : (E : Environment) (frames : List Frame) (t u : BranchTable) → HaveSameTargets t u →
    step (outermost (rules_of E)) frames (plain (operator.BrTable t)) ≡ step (outermost (rules_of E)) frames (plain (operator.BrTable u))
same_table E [] t u same = refl
same_table E (f ∷ outer) t u same = ap (after_rule E f outer) (same_rule E (labels_of (f ∷ outer) ++ []) t u same)

same_step : (E : Environment) (frames : List Frame) (op other : Operator) → EqualByTargets op other →
    step (outermost (rules_of E)) frames (role_of op) ≡ step (outermost (rules_of E)) frames (role_of other)
same_step E frames op other (inl is) = ap (λ o. step (outermost (rules_of E)) frames (role_of o)) is
same_step E frames op other (inr (t, u, is, table, same)) =
    ap (λ o. step (outermost (rules_of E)) frames (role_of o)) is ∙ same_table E frames t u same ∙ ap (λ o. step (outermost (rules_of E)) frames (role_of o)) (sym table)

then_same : (E : Environment) (xs ys : List (Role Operator)) (o : Option (List Frame)) →
    ((next : List Frame) → steps (outermost (rules_of E)) next xs ≡ steps (outermost (rules_of E)) next ys) →
    option_and_then (λ next. steps (outermost (rules_of E)) next xs) o ≡ option_and_then (λ next. steps (outermost (rules_of E)) next ys) o
then_same E xs ys None h = refl
then_same E xs ys (Some next) h = h next

pub same_steps : (E : Environment) (frames : List Frame) (ops others : List Operator) → AreEqualByTargets ops others →
    steps (outermost (rules_of E)) frames (roles_of ops) ≡ steps (outermost (rules_of E)) frames (roles_of others)
same_steps E frames [] [] equal = refl
same_steps E frames [] (other ∷ others) equal = absurd equal
same_steps E frames (op ∷ ops) [] equal = absurd equal
same_steps E frames (op ∷ ops) (other ∷ others) (one, more) =
    ap (option_and_then (λ next. steps (outermost (rules_of E)) next (roles_of ops))) (same_step E frames op other one) ∙
    then_same E (roles_of ops) (roles_of others) (step (outermost (rules_of E)) frames (role_of other)) (λ next. same_steps E next ops others more)
