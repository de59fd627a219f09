use Rattle.wasm_imm.proofs.DeterminedRefusals.{ordering_byte_determines, fence_determines}
use Rattle.wasm_imm.proofs.memory_laws.short_refusals.Goals as goal

pub returns-clause-ordering : goal.returns-clause-ordering
returns-clause-ordering c = ordering_byte_determines

pub returns-clause-fence : goal.returns-clause-fence
returns-clause-fence c = fence_determines c.args.features
