use Rattle.std.proofs.Common.{[], ◌++◌, ap, sym, subst, ◌∙◌}
use Rattle.std.proofs.lemmas.Result.{err_from_is_err_and}
use Rattle.wasm_operators.specs.below.Features.{all_features}
use Rattle.wasm_operators.specs.Expression.{EncodesExpression}
use Rattle.uses.specs.Input.{input}
use Rattle.uses.proofs.list.operators.Goals as goal

pub returns-in_err-read_all-clause-whole : goal.returns-in_err-read_all-clause-whole
returns-in_err-read_all-clause-whole c = λ placed encodes.
    let p = err_from_is_err_and c.from_residual.result c.from_residual.ensures.1 in
    let same = c.new-2.ensures.reader ∙ c.new.ensures in
    rw (p.1, p.2) ((c.in_err-read_all.ensures.rest [] c.new-2.ensures.read_so_far).only placed (rw same encodes) tt)

pub returns-clause-encodes : goal.returns-clause-encodes
returns-clause-encodes c =
    let along = (c.in_ok-read_all.ensures.rest [] c.new-2.ensures.read_so_far).tree in
    let encodes = rw (c.new-2.ensures.reader ∙ c.new.ensures) at along.2.encodes in
    subst (EncodesExpression (input all_features c.args.bytes.now)) (sym (along.1 ∙ ap (λ first. first ++ along.0) c.new-found.ensures.items)) encodes
