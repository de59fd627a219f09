use Rattle.wasm_below.proofs.TypePrefixCodes.{ref_prefix_code}
use Rattle.wasm_below.proofs.type_readers.RefTypeFromReader.is_prefix_code.Goals as goal

pub returns : goal.returns
returns c = λ features. ref_prefix_code
