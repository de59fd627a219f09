use Rattle.std.specs.Prelude.{◌≡◌, ◌↔◌, IsTrue, Bool, Result, Ok, Err}
use Rattle.wasm_below.specs.declared.error.Error.{Error}
use Rattle.wasm_instr.specs.declared.operator.Operator.{Operator}
use Rattle.wasm_instr.specs.declared.operator.Operator.TheVariants as operator
use Rattle.wasm_decode_opcodes.specs.Allowed.{EncodesAllowed}
use Rattle.wasm_operators.specs.Next.{all_operators}
use Rattle.wasm_operators.specs.Expression.{Placed, operators}
use Rattle.wasm_operators.specs.Reading.{State, IsUnchanged, TakesOperator, StopsRead, TakesOperators}
use Rattle.wasm_operators.specs.Constant.{EndsOnce}

-- An operator was read, and the result is whether it is `end`; or the read failed.
abbrev pub PassesOne : Result Bool Error → State → State → Type 0
PassesOne (Ok outcome) old new = (op : Operator) × TakesOperator EncodesAllowed op old new × (IsTrue outcome ↔ (op ≡ operator.End))
PassesOne (Err e) old new = IsUnchanged old new × StopsRead all_operators e new

abbrev pub PassesEnd : State → State → Type 0
PassesEnd old new = (placed : Placed) × TakesOperators old new placed × EndsOnce (operators placed)
