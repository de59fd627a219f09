use Rattle.std.proofs.Common.{refl}
use Rattle.wasm_operators.specs.Next.{all_operators, scalar_operators}
use Rattle.wasm_operators.proofs.OneRead.{refused_not_taken}
use Rattle.wasm_operators.proofs.reading_laws.not_taken.Goals as goal

pub returns-clause-any : goal.returns-clause-any
returns-clause-any c = λ e old mid new op stops other.
    refused_not_taken all_operators e mid mid new op refl refl stops.1 other

pub returns-clause-scalar : goal.returns-clause-scalar
returns-clause-scalar c = λ e old mid new op stops other.
    refused_not_taken scalar_operators e mid mid new op refl refl stops.1 other
