use Rattle.wasm_imm.proofs.ImmediatePrefixCodes.{immediates_prefix_code}
use Rattle.wasm_imm.proofs.immediate_laws.immediates.Goals as goal

pub returns : goal.returns
returns c = immediates_prefix_code c.args.features
