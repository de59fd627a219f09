use Rattle.std.proofs.Common.{refl}
use Rattle.wasm_operators.specs.Expression.{IsAny}
use Rattle.wasm_operators.specs.Visiting.{IsScalar}
use Rattle.wasm_operators.proofs.Existence.{longest_is_some, flat_is_some}
use Rattle.wasm_operators.proofs.expression_laws.longest_exists.Goals as goal

pub returns-clause-any : goal.returns-clause-any
returns-clause-any c = λ before s read_so_far none. longest_is_some IsAny tt before s read_so_far none

pub returns-clause-scalar : goal.returns-clause-scalar
returns-clause-scalar c = λ before s read_so_far none. longest_is_some IsScalar refl before s read_so_far none

pub returns-clause-flat : goal.returns-clause-flat
returns-clause-flat c = λ frames s none. flat_is_some IsAny tt frames s none

pub returns-clause-scalar_flat : goal.returns-clause-scalar_flat
returns-clause-scalar_flat c = λ frames s none. flat_is_some IsScalar refl frames s none
