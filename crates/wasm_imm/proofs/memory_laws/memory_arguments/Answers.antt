use Rattle.wasm_imm.proofs.FlagsNumber.{memarg_prefix_code}
use Rattle.wasm_imm.proofs.memory_laws.memory_arguments.Goals as goal

pub returns : goal.returns
returns c = memarg_prefix_code c.args.features c.args.kind c.args.max_align
