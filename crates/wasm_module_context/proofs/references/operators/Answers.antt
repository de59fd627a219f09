use Rattle.std.proofs.Common.{[], ◌++◌, sym, ap, subst, ◌∙◌}
use Rattle.wasm_below.specs.Source.{source_of}
use Rattle.wasm_operators.specs.Expression.{EncodesRest, EncodesExpression}
use Rattle.wasm_module_context.proofs.references.operators.Goals as goal

pub returns-in-Ok-clause-encodes : goal.returns-in-Ok-clause-encodes
returns-in-Ok-clause-encodes c =
    let along = (c.in-Ok.ensures.rest [] c.get_operators_reader-reader.ensures.read_so_far).tree in
    let same = c.get_operators_reader-reader.ensures.reader ∙ c.expression.ensures in
    let encodes = subst (λ r. EncodesRest [] (source_of r) along.0) same along.2.encodes in
    subst (EncodesExpression (source_of c.args.constant.now)) (sym (along.1 ∙ ap (λ first. first ++ along.0) c.new-found.ensures.items)) encodes

pub returns-clause-whole : goal.returns-clause-whole
returns-clause-whole c = λ other placed encodes.
    let same = c.get_operators_reader-reader.ensures.reader ∙ c.expression.ensures in
    other ((c.in-Err.ensures.rest [] c.get_operators_reader-reader.ensures.read_so_far).only placed (subst (λ r. EncodesRest [] (source_of r) placed) (sym same) encodes) tt)
