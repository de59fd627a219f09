use Rattle.wasm_instr.proofs.JoinedRoles.{roles_joined}
use Rattle.wasm_instr.proofs.laws.joined_roles.Goals as goal

pub returns : goal.returns
returns c = roles_joined
