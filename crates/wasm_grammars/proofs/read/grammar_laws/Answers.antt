use Rattle.wasm_grammars.proofs.Laws.{code, determines}
use Rattle.wasm_grammars.proofs.read.grammar_laws.Goals as goal

pub returns-clause-code : goal.returns-clause-code
returns-clause-code g c = λ features. code (g.T.Read.grammar features)

pub returns-clause-refusals : goal.returns-clause-refusals
returns-clause-refusals g c = λ features. determines (g.T.Read.grammar features)
