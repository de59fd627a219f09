use Rattle.wasm_below.proofs.PrefixCode.{size_prefix_code}
use Rattle.wasm_below.proofs.byte_laws.counts.Goals as goal

pub returns : goal.returns
returns c = size_prefix_code
