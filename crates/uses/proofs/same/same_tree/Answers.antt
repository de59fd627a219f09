use Rattle.std.proofs.Common.{◌≡◌, ℕ, ◌<◌, ◌≤◌, length, sym, ap, ◌∙◌, rules}
use Rattle.wasm_operators.specs.instr.declared.operator.Operator.{Operator}
use Rattle.uses.proofs.SameTrees.{both_more, one_of_both}
use Rattle.uses.proofs.same.same_tree.Goals as goal

pub loop-index-preserved : goal.loop-index-preserved
loop-index-preserved c =
    let first = c.args.first.now in
    let second = c.args.second.now in
    let within : c.loop-index.index < length first = search rules in
    let long : length first ≡ length second = search rules in
    let p = c.index-first-index in
    let q = c.index-second-index in
    let same = ap (λ (it : Operator × ℕ). it.0) p.is ∙ c.same_operator.ensures.0 (search rules) ∙ sym (ap (λ (it : Operator × ℕ). it.0) q.is) in
    both_more first second c.loop-index.index p.result q.result c.loop-index.invariant p.is q.is within long same

pub returns : goal.returns
returns c =
    let first = c.args.first.now in
    let second = c.args.second.now in
    let long : length first ≡ length second = search rules in
    let end : length first ≤ c.loop-index.index = search rules in
    λ is. one_of_both first second c.loop-index.index c.one_tree.ensures end long c.loop-index.invariant
