use Rattle.wasm_decode.proofs.DeterminedOperatorRefusals.{operator_determines, scalar_determines}
use Rattle.wasm_operators.specs.Next.{all_operators, scalar_operators}
use Rattle.wasm_operators.proofs.OneRead.{one_refusal}
use Rattle.wasm_operators.proofs.reading_laws.refused_again.Goals as goal

pub returns-clause-any : goal.returns-clause-any
returns-clause-any c = λ d e old mid new first other second others.
    one_refusal all_operators operator_determines d e mid new second.0.0 second.0.1 first.1 second.1 other others

pub returns-clause-scalar : goal.returns-clause-scalar
returns-clause-scalar c = λ d e old mid new first other second others.
    one_refusal scalar_operators scalar_determines d e mid new second.0.0 second.0.1 first.1 second.1 other others
