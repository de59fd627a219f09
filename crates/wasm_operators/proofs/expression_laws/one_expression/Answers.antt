use Rattle.std.proofs.Common.{[]}
use Rattle.wasm_operators.proofs.LayoutLemmas.{one_whole}
use Rattle.wasm_operators.proofs.expression_laws.one_expression.Goals as goal

pub returns : goal.returns
returns c = λ offset first second a b x y p q e. one_whole [] c.args.features offset first second a b x y p.0 q.0 p.1 q.1 e
