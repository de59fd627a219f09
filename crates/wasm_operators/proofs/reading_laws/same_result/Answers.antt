use Rattle.wasm_decode_opcodes.specs.Allowed.{EncodesAllowed, EncodesScalar}
use Rattle.wasm_decode_opcodes.specs.OperatorFaults.{OperatorFault, ScalarOperatorFault}
use Rattle.wasm_decode.proofs.DeterminedOperatorRefusals.{operator_determines, scalar_determines}
use Rattle.wasm_operators.proofs.DecoderPremises.{sound, scalar_sound}
use Rattle.wasm_operators.proofs.SameReads.{taken_same, stopped_same, taken_or_memory}
use Rattle.wasm_operators.proofs.reading_laws.same_result.Goals as goal

pub returns-clause-taken : goal.returns-clause-taken
returns-clause-taken c = λ op other old new start end agree a b. taken_same EncodesAllowed sound op other old new start end agree a b

pub returns-clause-refused : goal.returns-clause-refused
returns-clause-refused c = λ d e old new start end agree a other b others.
    stopped_same EncodesAllowed OperatorFault operator_determines d e old new start end agree a other b others

pub returns-clause-never_both : goal.returns-clause-never_both
returns-clause-never_both c = λ e op old new start end agree takes stops.
    taken_or_memory EncodesAllowed OperatorFault e op old new start end agree takes stops

pub returns-clause-scalar_taken : goal.returns-clause-scalar_taken
returns-clause-scalar_taken c = λ op other old new start end agree a b. taken_same EncodesScalar scalar_sound op other old new start end agree a b

pub returns-clause-scalar_refused : goal.returns-clause-scalar_refused
returns-clause-scalar_refused c = λ d e old new start end agree a other b others.
    stopped_same EncodesScalar ScalarOperatorFault scalar_determines d e old new start end agree a other b others

pub returns-clause-scalar_never_both : goal.returns-clause-scalar_never_both
returns-clause-scalar_never_both c = λ e op old new start end agree takes stops.
    taken_or_memory EncodesScalar ScalarOperatorFault e op old new start end agree takes stops
