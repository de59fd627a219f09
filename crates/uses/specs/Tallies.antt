use Rattle.std.specs.Prelude.{◌≡◌, ℕ, ◌+◌, ◌-◌, ◌^◌, ◌<◌, List}
use Rattle.wasm_operators.specs.below.Source.{Reader, Takes}
use Rattle.wasm_operators.specs.instr.declared.operator.Operator.{Operator}
use Rattle.wasm_operators.specs.instr.Encoding.{EncodesOperator}

-- The count grows by one, unless it is the largest `u64`.
abbrev pub CountsOne : ℕ → ℕ → Type 0
CountsOne before after = before < 2 ^ 64 - 1 → after ≡ before + 1

abbrev pub TakesOne : Reader → Reader → Type 0
TakesOne old new = (op : Operator) × (text : List ℕ) × EncodesOperator old.features text op × Takes old new text
