-- Constant expressions as text, in the form of wabt's `wasm-objdump -x`. Specification: Validation,
-- Constant Expressions; Text Format, Instructions.
use Rattle.std.specs.Prelude.{◌≡◌, ◌==◌, ℕ, ◌-◌, false, List, [], ◌∷◌, ◌++◌, length, take, Option, Some, None, codes, decimal, flat_map}
use Rattle.std.specs.Int.{w32, w64, cast_unsigned}
use Rattle.std.specs.List.{after_first}
use Rattle.wasm_below.specs.declared.types.AbstractHeapType.{AbstractHeapType}
use Rattle.wasm_below.specs.declared.types.AbstractHeapType.TheVariants as ty
use Rattle.wasm_below.specs.declared.types.HeapType.{HeapType}
use Rattle.wasm_below.specs.declared.types.HeapType.TheVariants as heap
use Rattle.wasm_below.specs.Source.{Reader, source_of}
use Rattle.wasm_instr.specs.declared.operator.Operator.{Operator}
use Rattle.wasm_instr.specs.declared.operator.Operator.TheVariants as operator
use Rattle.wasm_details.specs.declared.constants.Usage.{Usage}
use Rattle.wasm_details.specs.declared.constants.Usage.TheVariants as usage
use Rattle.wasm_index_names.specs.Known.{ModuleNames}
use Rattle.wasm_index_names.specs.Lists.{name_at}
use Rattle.wasm_operators.specs.Expression.{Placed, EncodesExpression}
use Rattle.wasm_text.specs.Lines.{shown_name}
use Rattle.wasm_text.specs.Operands.{text_of}

-- What follows the first space of an operator's text.
abbrev pub operand_text : Operator → List ℕ
operand_text op = after_first (λ b. b == 32) (text_of op)

-- The name of the global or function that an operator refers to.
abbrev pub referred : ModuleNames → Operator → List ℕ
referred names (operator.GlobalGet index) = name_at names.globals index
referred names (operator.RefFunc index) = name_at names.functions index
referred names op = []

-- An operator, and the name of what it refers to.
abbrev pub named_operator : ModuleNames → Operator → List ℕ
named_operator names op = text_of op ++ shown_name (referred names op)

abbrev pub next_operator : ModuleNames → Operator → List ℕ
next_operator names op = codes ", " ++ named_operator names op

-- Operators in parentheses.
abbrev pub operators_text : ModuleNames → Operator → Placed → List ℕ
operators_text names first more = codes "(" ++ (named_operator names first ++ (flat_map (λ p. next_operator names p.0) more ++ codes ")"))

-- A null reference with its heap type, which is the operand of the operator.
abbrev pub typed_null : Operator → List ℕ
typed_null op = codes "ref.null (ref null " ++ (operand_text op ++ codes ")")

-- A null reference of an abstract type that is not shared.
abbrev pub abstract_null : AbstractHeapType → Operator → List ℕ
abstract_null ty.Func op = codes "ref.null funcref"
abstract_null ty.Extern op = codes "ref.null externref"
abstract_null hty op = typed_null op

-- A null reference with its type.
abbrev pub null_text : HeapType → Operator → List ℕ
null_text (heap.Abstract false hty) op = abstract_null hty op
null_text hty op = typed_null op

-- An operator that is a value. Numbers are signed.
abbrev pub value_text : ModuleNames → Operator → List ℕ
value_text names (operator.I32Const n) = codes "i32=" ++ operand_text (operator.I32Const n)
value_text names (operator.I64Const n) = codes "i64=" ++ operand_text (operator.I64Const n)
value_text names (operator.F32Const bits) = codes "f32=" ++ operand_text (operator.F32Const bits)
value_text names (operator.F64Const bits) = codes "f64=" ++ operand_text (operator.F64Const bits)
value_text names (operator.GlobalGet index) = codes "global=" ++ (decimal index ++ shown_name (name_at names.globals index))
value_text names (operator.RefFunc index) = codes "ref.func:" ++ (decimal index ++ shown_name (name_at names.functions index))
value_text names (operator.RefNull hty) = null_text hty (operator.RefNull hty)
value_text names op = operators_text names op []

-- An operator that is the offset of a segment. Numbers are unsigned.
abbrev pub offset_text : ModuleNames → Operator → List ℕ
offset_text names (operator.I32Const n) = codes "i32=" ++ decimal (cast_unsigned w32 n)
offset_text names (operator.I64Const n) = codes "i64=" ++ decimal (cast_unsigned w64 n)
offset_text names op = value_text names op

-- An operator that is an element of a segment.
abbrev pub element_text : ModuleNames → Operator → List ℕ
element_text names (operator.RefFunc index) = codes "func[" ++ (decimal index ++ (codes "]" ++ shown_name (name_at names.functions index)))
element_text names op = value_text names op

abbrev pub single_text : ModuleNames → Usage → Operator → List ℕ
single_text names usage.Value op = value_text names op
single_text names usage.Offset op = offset_text names op
single_text names usage.Element op = element_text names op

-- An expression of these operators and `end`.
abbrev pub constant_text : ModuleNames → Usage → Placed → List ℕ
constant_text names way [] = codes "<EMPTY>"
constant_text names way (p ∷ []) = single_text names way p.0
constant_text names way (p ∷ ps) = operators_text names p.0 ps

abbrev pub operator_number : Operator → Option ℕ
operator_number (operator.I32Const n) = Some (cast_unsigned w32 n)
operator_number (operator.I64Const n) = Some (cast_unsigned w64 n)
operator_number op = None

-- The number of an expression that is a constant of the type i32 or i64; unsigned.
abbrev pub number_of : Placed → Option ℕ
number_of (p ∷ []) = operator_number p.0
number_of placed = None

-- The operators before the last, which is `end`.
abbrev pub without_end : Placed → Placed
without_end placed = take (length placed - 1) placed

-- The text and the number of an expression.
abbrev pub ShowsConstant : ModuleNames → Usage → Reader → List ℕ → Option ℕ → Type 0
ShowsConstant names way r text number =
    (placed : Placed) × EncodesExpression (source_of r) placed × (text ≡ constant_text names way (without_end placed)) × (number ≡ number_of (without_end placed))
