use Rattle.wasm_below.proofs.TypePrefixCodes.{value_prefix_code}
use Rattle.wasm_below.proofs.type_readers.ValTypeFromReader.is_prefix_code.Goals as goal

pub returns : goal.returns
returns c = λ features. value_prefix_code
