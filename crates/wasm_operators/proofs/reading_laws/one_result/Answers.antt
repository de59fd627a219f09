use Rattle.wasm_decode.proofs.DeterminedOperatorRefusals.{operator_determines, scalar_determines}
use Rattle.wasm_operators.specs.Next.{all_operators, collecting, scalar_operators}
use Rattle.wasm_operators.proofs.Ends.{beginnings_same}
use Rattle.wasm_operators.proofs.reading_laws.one_result.Goals as goal

pub returns-clause-reads : goal.returns-clause-reads
returns-clause-reads c = λ before d e old new end placed others first other second not.
    beginnings_same collecting operator_determines before d e old new end placed others first second other not

pub returns-clause-visits : goal.returns-clause-visits
returns-clause-visits c = λ before d e old new end placed others first other second not.
    beginnings_same all_operators operator_determines before d e old new end placed others first second other not

pub returns-clause-scalar : goal.returns-clause-scalar
returns-clause-scalar c = λ before d e old new end placed others first other second not.
    beginnings_same scalar_operators scalar_determines before d e old new end placed others first second other not
