use Rattle.wasm_operators.proofs.Scalar.{scalar_exactly, scalar_part, scalar_flat, scalar_closes}
use Rattle.wasm_operators.proofs.expression_laws.scalar_longest.Goals as goal

pub returns-clause-exactly : goal.returns-clause-exactly
returns-clause-exactly c = λ before s longest placed l. scalar_exactly before s longest placed l

pub returns-clause-part : goal.returns-clause-part
returns-clause-part c = λ before s longest placed l h scalar. scalar_part before s longest placed l h scalar

pub returns-clause-flat : goal.returns-clause-flat
returns-clause-flat c = λ frames s flat l. scalar_flat frames s flat l

pub returns-clause-closes : goal.returns-clause-closes
returns-clause-closes c = λ frames s flat l. scalar_closes frames s flat l
