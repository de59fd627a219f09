use Rattle.wasm_below.proofs.PrefixCode.{fixed_prefix_code_32, fixed_prefix_code_64}
use Rattle.wasm_below.proofs.byte_laws.fixed_numbers.Goals as goal

pub returns-clause-four : goal.returns-clause-four
returns-clause-four c = fixed_prefix_code_32

pub returns-clause-eight : goal.returns-clause-eight
returns-clause-eight c = fixed_prefix_code_64
