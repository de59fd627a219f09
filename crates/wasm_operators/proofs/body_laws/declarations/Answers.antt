use Rattle.wasm_operators.proofs.LocalsLemmas.{declaration_prefix_code, locals_prefix_code}
use Rattle.wasm_operators.proofs.body_laws.declarations.Goals as goal

pub returns-clause-one : goal.returns-clause-one
returns-clause-one c = declaration_prefix_code

pub returns-clause-locals : goal.returns-clause-locals
returns-clause-locals c = locals_prefix_code
