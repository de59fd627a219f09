use Rattle.wasm_decode_opcodes.specs.Allowed.{EncodesAllowed}
use Rattle.wasm_operators.proofs.DecoderPremises.{sound}
use Rattle.wasm_operators.proofs.Runs.{ran_start, ran_push, ran_unchanged, ran_join, taken_ahead}
use Rattle.wasm_operators.proofs.run_laws.single_reads.Goals as goal

pub returns-clause-first : goal.returns-clause-first
returns-clause-first c = λ s. ran_start s

pub returns-clause-next : goal.returns-clause-next
returns-clause-next c = λ old mid new placed op ran takes. ran_push EncodesAllowed sound old mid new placed op ran takes

pub returns-clause-refused : goal.returns-clause-refused
returns-clause-refused c = λ old mid new placed ran same. ran_unchanged old mid new placed ran same

pub returns-clause-joined : goal.returns-clause-joined
returns-clause-joined c = λ old mid new first second ran on. ran_join old mid new first second ran on

pub returns-clause-progress : goal.returns-clause-progress
returns-clause-progress c = λ op old new takes. taken_ahead EncodesAllowed sound op old new takes
