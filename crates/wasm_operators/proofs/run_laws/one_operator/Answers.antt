use Rattle.wasm_decode_opcodes.specs.Allowed.{EncodesAllowed, EncodesScalar}
use Rattle.wasm_operators.proofs.DecoderPremises.{sound, scalar_sound}
use Rattle.wasm_operators.proofs.Runs.{read_one_more, read_no_further}
use Rattle.wasm_operators.proofs.run_laws.one_operator.Goals as goal

pub returns-clause-any : goal.returns-clause-any
returns-clause-any c = λ before op old new takes read_so_far. read_one_more EncodesAllowed sound before op old new takes read_so_far

pub returns-clause-scalar : goal.returns-clause-scalar
returns-clause-scalar c = λ before op old new takes read_so_far. read_one_more EncodesScalar scalar_sound before op old new takes read_so_far

pub returns-clause-refused : goal.returns-clause-refused
returns-clause-refused c = λ before old new same read_so_far. read_no_further before old new same read_so_far
