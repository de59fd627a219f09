use Rattle.wasm_below.proofs.TypePrefixCodes.{heap_prefix_code}
use Rattle.wasm_below.proofs.type_readers.HeapTypeFromReader.is_prefix_code.Goals as goal

pub returns : goal.returns
returns c = λ features. heap_prefix_code
