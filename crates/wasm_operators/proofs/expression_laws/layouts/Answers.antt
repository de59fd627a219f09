use Rattle.wasm_operators.proofs.LayoutLemmas.{laid_append, laid_encoded}
use Rattle.wasm_operators.proofs.Ranges.{laid_length, laid_parts}
use Rattle.wasm_operators.proofs.expression_laws.layouts.Goals as goal

pub returns-clause-length : goal.returns-clause-length
returns-clause-length c = λ offset placed bytes l. laid_length c.args.features offset placed bytes l

pub returns-clause-encoded : goal.returns-clause-encoded
returns-clause-encoded c = λ offset placed bytes l. laid_encoded c.args.features offset placed bytes l

pub returns-clause-parts : goal.returns-clause-parts
returns-clause-parts c = λ offset first second bytes l. laid_parts c.args.features offset first second bytes l

pub returns-clause-joined : goal.returns-clause-joined
returns-clause-joined c = λ offset first second a b l m. laid_append c.args.features offset first second a b l m
