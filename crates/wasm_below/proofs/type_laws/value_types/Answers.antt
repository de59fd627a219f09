use Rattle.wasm_below.proofs.TypePrefixCodes.{value_prefix_code}
use Rattle.wasm_below.proofs.type_laws.value_types.Goals as goal

pub returns : goal.returns
returns c = value_prefix_code
