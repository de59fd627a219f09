use Rattle.std.proofs.Common.{◌≡◌, ℕ, ◌+◌, ◌<◌, ◌≤◌, [], ◌∷◌, ◌++◌, length, take, get_or, sym, ap, ◌∙◌, arith}
use Rattle.std.proofs.lemmas.List.{map-append, take_more, take_all}
use Rattle.wasm_operators.specs.grammar.Tree.{Expression, walk}
use Rattle.wasm_operators.specs.instr.declared.operator.Operator.{Operator}
use Rattle.wasm_operators.specs.instr.Roles.{roles_of}
use Rattle.wasm_operators.specs.Expression.{Placed, operators}
use Rattle.uses.specs.Trees.{IsTreeOf}

one_more : (list : Placed) (i : ℕ) (p : Operator × ℕ) → p ≡ get_or list i p → i < length list → operators (take (i + 1) list) ≡ operators (take i list) ++ p.0 ∷ []
one_more list i p is within =
    ap operators (take_more list i p within) ∙ map-append (λ (q : Operator × ℕ). q.0) (take i list) (get_or list i p ∷ []) ∙
    ap (λ (q : Operator × ℕ). operators (take i list) ++ q.0 ∷ []) (sym is)

pub both_more : (first second : Placed) (i : ℕ) (p q : Operator × ℕ) → operators (take i first) ≡ operators (take i second) → p ≡ get_or first i p →
    q ≡ get_or second i q → i < length first → length first ≡ length second → p.0 ≡ q.0 →
    operators (take (i + 1) first) ≡ operators (take (i + 1) second)
both_more first second i p q so_far one other within long same =
    one_more first i p one within ∙ ap (λ ops. ops ++ p.0 ∷ []) so_far ∙ ap (λ op. operators (take i second) ++ op ∷ []) same ∙
    sym (one_more second i q other (omega (arith, within, long)))

-- What the law `one_tree` states of operators.
abbrev pub IsOneTree : Type 0
IsOneTree = (tree other : Expression Operator) → walk tree ≡ walk other → tree ≡ other

pub one_of_both : (first second : Placed) (n : ℕ) → IsOneTree → length first ≤ n → length first ≡ length second →
    operators (take n first) ≡ operators (take n second) → (tree other : Expression Operator) → IsTreeOf first tree → IsTreeOf second other → tree ≡ other
one_of_both first second n one end long so_far tree other is is_other =
    let whole : operators first ≡ operators second =
    sym (ap operators (take_all n first end)) ∙ so_far ∙ ap operators (take_all n second (omega (arith, end, long))) in
    one tree other (sym is ∙ ap roles_of whole ∙ is_other)
