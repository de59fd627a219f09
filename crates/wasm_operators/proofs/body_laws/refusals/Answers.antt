use Rattle.wasm_operators.proofs.Determined.{declaration_determines, next_determines, locals_determine}
use Rattle.wasm_operators.proofs.body_laws.refusals.Goals as goal

pub returns-clause-one : goal.returns-clause-one
returns-clause-one c = declaration_determines

pub returns-clause-next : goal.returns-clause-next
returns-clause-next c = next_determines

pub returns-clause-locals : goal.returns-clause-locals
returns-clause-locals c = locals_determine
