use Rattle.wasm_below.proofs.TypePrefixCodes.{ref_prefix_code}
use Rattle.wasm_below.proofs.type_laws.reference_types.Goals as goal

pub returns : goal.returns
returns c = ref_prefix_code
