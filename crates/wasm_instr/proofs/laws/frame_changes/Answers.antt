use Rattle.wasm_grammar.proofs.Innermost.{may_follow}
use Rattle.wasm_instr.specs.Roles.{role_of}
use Rattle.wasm_instr.proofs.FirstBytes.{changes_first}
use Rattle.wasm_instr.proofs.HighBytes.{stays_from_20}
use Rattle.wasm_instr.proofs.laws.frame_changes.Goals as goal

pub returns-clause-bytes : goal.returns-clause-bytes
returns-clause-bytes c = λ f op text byte. changes_first f op text byte

pub returns-clause-frames : goal.returns-clause-frames
returns-clause-frames c = λ op frames kind. may_follow frames kind (role_of op)

pub returns-clause-high : goal.returns-clause-high
returns-clause-high c = stays_from_20
