use Rattle.wasm_below.specs.Features.{multi_memory, call_indirect_overlong}
use Rattle.wasm_imm.proofs.DeterminedRefusals.{index_determines}
use Rattle.wasm_imm.proofs.memory_laws.index_refusals.Goals as goal

pub returns-clause-memory : goal.returns-clause-memory
returns-clause-memory c = index_determines multi_memory c.args.features

pub returns-clause-table : goal.returns-clause-table
returns-clause-table c = index_determines call_indirect_overlong c.args.features
