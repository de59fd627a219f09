use Rattle.wasm_operators.proofs.VisitLemmas.{scalar_begins, scalar_none, scalar_longest}
use Rattle.wasm_operators.proofs.expression_laws.scalar_beginnings.Goals as goal

pub returns-clause-beginning : goal.returns-clause-beginning
returns-clause-beginning c = λ placed. scalar_begins placed

pub returns-clause-none : goal.returns-clause-none
returns-clause-none c = λ placed before after op at e vector. scalar_none placed (op, at) before after e vector

pub returns-clause-longest : goal.returns-clause-longest
returns-clause-longest c = λ placed others begins scalar. scalar_longest placed others begins scalar
