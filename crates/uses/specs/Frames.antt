-- Specification: Binary Format, Control Instructions. Proposal legacy exception handling.
use Rattle.std.specs.Prelude.{ℕ, ◌+◌, ◌-◌, List, [], ◌∷◌}
use Rattle.wasm_operators.specs.instr.declared.operator.Operator.{Operator}
use Rattle.wasm_operators.specs.instr.declared.operator.Operator.TheVariants as operator

abbrev pub opens : Operator → ℕ
opens (operator.Block _) = 1
opens (operator.Loop _) = 1
opens (operator.If _) = 1
opens (operator.Try _) = 1
opens (operator.TryTable _) = 1
opens _ = 0

abbrev pub closes : Operator → ℕ
closes operator.End = 1
closes (operator.Delegate _) = 1
closes _ = 0

-- The number of open frames after operators, if `n` are open before.
abbrev pub open_after : ℕ → List Operator → ℕ
open_after n [] = n
open_after n (op ∷ ops) = open_after (n + opens op - closes op) ops
