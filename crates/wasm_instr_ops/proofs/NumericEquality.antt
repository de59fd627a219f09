-- Written by tools/lists.py from tools/operators.tsv.
use Rattle.wasm_below.specs.Equality.{IsExact}
use Rattle.wasm_below.proofs.EnumEquality.{bare_exact}
use Rattle.wasm_instr_ops.specs.contracts.numeric.NumericOperator as numeric_type
use Rattle.wasm_instr_ops.specs.contracts.numeric.NumericOperatorPartialEq.TheImpl as numeric_eq

pub numeric_exact : IsExact numeric_eq.ghosts.eq
numeric_exact = bare_exact numeric_type.the_type tt
