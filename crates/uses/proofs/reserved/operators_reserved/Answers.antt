use Rattle.std.proofs.Common.{[], ◌++◌, ap, sym, subst, ◌∙◌}
use Rattle.wasm_operators.specs.Expression.{EncodesExpression}
use Rattle.uses.specs.Input.{input}
use Rattle.uses.proofs.reserved.operators_reserved.Goals as goal

pub returns : goal.returns
returns c =
    let along = c.in_ok-read_reserved.ensures.tree [] c.in_ok-operators.ensures.read_so_far in
    let encodes = rw (c.in_ok-operators.ensures.reader ∙ c.new_features-reader.ensures) at along.2.encodes in
    subst (EncodesExpression (input c.args.features c.args.bytes.now))
    (sym (along.1 ∙ ap (λ first. first ++ along.0) (c.in_ok-operators.ensures.same ∙ c.new-found.ensures.items))) encodes
