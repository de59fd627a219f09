-- What a row of the table by opcodes says.
use Rattle.std.specs.Prelude.{◌≡◌, ◌==◌, if◌then◌else◌, ℕ, List, [], ◌∷◌}
use Rattle.wasm_signatures.specs.Types.{InstructionType, OperatorTyping, fixed}
use Rattle.wasm_signatures.specs.declared.operand_type.OperandType.{OperandType}
use Rattle.wasm_signatures.specs.declared.rows.Row.{Row}

-- At most two operands. The last is on top.
abbrev pub operands : ℕ → OperandType → OperandType → List OperandType
operands n below top = if n == 0 then [] else if n == 1 then top ∷ [] else below ∷ top ∷ []

abbrev pub results : ℕ → OperandType → List OperandType
results n result = if n == 0 then [] else result ∷ []

abbrev pub type_of_row : Row → InstructionType
type_of_row r = record { takes = operands r.takes r.below r.top; leaves = results r.leaves r.result }

-- If the operator determines its types, the row says them.
abbrev pub HasRow : Row → OperatorTyping → Type 0
HasRow r (fixed ty) = type_of_row r ≡ ty
HasRow r _ = Unit {0}
