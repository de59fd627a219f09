use Rattle.wasm_imm.proofs.ShortPrefixCodes.{ordering_byte_prefix_code, fence_prefix_code}
use Rattle.wasm_imm.proofs.memory_laws.orderings.Goals as goal

pub returns-clause-alone : goal.returns-clause-alone
returns-clause-alone c = ordering_byte_prefix_code

pub returns-clause-fence : goal.returns-clause-fence
returns-clause-fence c = fence_prefix_code c.args.features
