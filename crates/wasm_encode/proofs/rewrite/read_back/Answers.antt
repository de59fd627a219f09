use Rattle.std.proofs.Common.{[], ◌++◌, refl, ap, subst, sym, ◌∙◌}
use Rattle.wasm_below.specs.Source.{source_of}
use Rattle.wasm_operators.specs.Expression.{operators, EncodesExpression}
use Rattle.wasm_encode.proofs.Lists.{encodes_walk}
use Rattle.wasm_encode.proofs.rewrite.read_back.Goals as goal

pub returns-in-Ok-clause-same : goal.returns-in-Ok-clause-same
returns-in-Ok-clause-same c = λ ops walk encoded.
    let bytes = c.args.bytes.now in
    let (again, same, e) = encodes_walk c.args.features ops bytes walk encoded in
    let along = (c.in-Ok.ensures.rest [] c.new-reader.ensures.read_so_far).tree in
    let list = along.1 ∙ ap (λ first. first ++ along.0) c.new-found.ensures.items in
    let encodes = rw (c.new-reader.ensures.reader ∙ c.new_features.ensures) at along.2.encodes in
    let one = c.one_expression.ensures 0 along.0 again bytes bytes [] [] encodes e refl in
    ap operators (list ∙ one.0) ∙ same

-- The bytes encode an expression, so only allocation can fail.
pub returns-clause-memory : goal.returns-clause-memory
returns-clause-memory c = λ ops walk encoded.
    let (again, same, e) = encodes_walk c.args.features ops c.args.bytes.now walk encoded in
    let whole = subst (λ r. EncodesExpression (source_of r) again) (sym (c.new-reader.ensures.reader ∙ c.new_features.ensures)) e in
    (c.in-Err.ensures.rest [] c.new-reader.ensures.read_so_far).only again whole tt
