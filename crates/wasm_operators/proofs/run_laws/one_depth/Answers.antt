use Rattle.wasm_decode_opcodes.specs.Allowed.{EncodesAllowed, EncodesScalar}
use Rattle.wasm_operators.proofs.DecoderPremises.{sound, scalar_sound}
use Rattle.wasm_operators.proofs.Runs.{taken_depth}
use Rattle.wasm_operators.proofs.run_laws.one_depth.Goals as goal

pub returns-clause-any : goal.returns-clause-any
returns-clause-any c = λ op old new takes. taken_depth EncodesAllowed sound op old new takes

pub returns-clause-scalar : goal.returns-clause-scalar
returns-clause-scalar c = λ op old new takes. taken_depth EncodesScalar scalar_sound op old new takes
