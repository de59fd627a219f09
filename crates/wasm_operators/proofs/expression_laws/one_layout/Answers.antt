use Rattle.wasm_operators.proofs.LayoutLemmas.{laid_beginning, laid_same}
use Rattle.wasm_operators.proofs.expression_laws.one_layout.Goals as goal

pub returns-clause-beginning : goal.returns-clause-beginning
returns-clause-beginning c = λ offset first second a b x y l m e le. laid_beginning c.args.features offset first second a b x y l m e le

pub returns-clause-same : goal.returns-clause-same
returns-clause-same c = λ offset first second a b x y l m e n. laid_same c.args.features offset first second a b x y l m e n
