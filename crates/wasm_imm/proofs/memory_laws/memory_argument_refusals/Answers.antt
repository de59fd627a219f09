use Rattle.wasm_imm.proofs.DeterminedMemoryArgumentRefusals.{memarg_determines}
use Rattle.wasm_imm.proofs.memory_laws.memory_argument_refusals.Goals as goal

pub returns : goal.returns
returns c = memarg_determines c.args.features c.args.kind
