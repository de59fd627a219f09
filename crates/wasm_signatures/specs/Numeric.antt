-- Written by tools/lists.py from tools/operators.tsv.
-- Specification: Numeric Instructions; Appendix, Index of Instructions.
use Rattle.std.specs.Prelude.{[], ◌∷◌}
use Rattle.wasm_instr_ops.specs.declared.numeric.NumericOperator.{NumericOperator}
use Rattle.wasm_instr_ops.specs.declared.numeric.NumericOperator.TheVariants as numeric
use Rattle.wasm_signatures.specs.Types.{InstructionType}
use Rattle.wasm_signatures.specs.declared.operand_type.OperandType.TheVariants as t

-- The types of the numeric operators with a one-byte opcode.
abbrev pub numeric_type : NumericOperator → InstructionType
numeric_type numeric.I32Eqz = record { takes = t.I32 ∷ []; leaves = t.I32 ∷ [] }
numeric_type numeric.I32Eq = record { takes = t.I32 ∷ t.I32 ∷ []; leaves = t.I32 ∷ [] }
numeric_type numeric.I32Ne = record { takes = t.I32 ∷ t.I32 ∷ []; leaves = t.I32 ∷ [] }
numeric_type numeric.I32LtS = record { takes = t.I32 ∷ t.I32 ∷ []; leaves = t.I32 ∷ [] }
numeric_type numeric.I32LtU = record { takes = t.I32 ∷ t.I32 ∷ []; leaves = t.I32 ∷ [] }
numeric_type numeric.I32GtS = record { takes = t.I32 ∷ t.I32 ∷ []; leaves = t.I32 ∷ [] }
numeric_type numeric.I32GtU = record { takes = t.I32 ∷ t.I32 ∷ []; leaves = t.I32 ∷ [] }
numeric_type numeric.I32LeS = record { takes = t.I32 ∷ t.I32 ∷ []; leaves = t.I32 ∷ [] }
numeric_type numeric.I32LeU = record { takes = t.I32 ∷ t.I32 ∷ []; leaves = t.I32 ∷ [] }
numeric_type numeric.I32GeS = record { takes = t.I32 ∷ t.I32 ∷ []; leaves = t.I32 ∷ [] }
numeric_type numeric.I32GeU = record { takes = t.I32 ∷ t.I32 ∷ []; leaves = t.I32 ∷ [] }
numeric_type numeric.I64Eqz = record { takes = t.I64 ∷ []; leaves = t.I32 ∷ [] }
numeric_type numeric.I64Eq = record { takes = t.I64 ∷ t.I64 ∷ []; leaves = t.I32 ∷ [] }
numeric_type numeric.I64Ne = record { takes = t.I64 ∷ t.I64 ∷ []; leaves = t.I32 ∷ [] }
numeric_type numeric.I64LtS = record { takes = t.I64 ∷ t.I64 ∷ []; leaves = t.I32 ∷ [] }
numeric_type numeric.I64LtU = record { takes = t.I64 ∷ t.I64 ∷ []; leaves = t.I32 ∷ [] }
numeric_type numeric.I64GtS = record { takes = t.I64 ∷ t.I64 ∷ []; leaves = t.I32 ∷ [] }
numeric_type numeric.I64GtU = record { takes = t.I64 ∷ t.I64 ∷ []; leaves = t.I32 ∷ [] }
numeric_type numeric.I64LeS = record { takes = t.I64 ∷ t.I64 ∷ []; leaves = t.I32 ∷ [] }
numeric_type numeric.I64LeU = record { takes = t.I64 ∷ t.I64 ∷ []; leaves = t.I32 ∷ [] }
numeric_type numeric.I64GeS = record { takes = t.I64 ∷ t.I64 ∷ []; leaves = t.I32 ∷ [] }
numeric_type numeric.I64GeU = record { takes = t.I64 ∷ t.I64 ∷ []; leaves = t.I32 ∷ [] }
numeric_type numeric.F32Eq = record { takes = t.F32 ∷ t.F32 ∷ []; leaves = t.I32 ∷ [] }
numeric_type numeric.F32Ne = record { takes = t.F32 ∷ t.F32 ∷ []; leaves = t.I32 ∷ [] }
numeric_type numeric.F32Lt = record { takes = t.F32 ∷ t.F32 ∷ []; leaves = t.I32 ∷ [] }
numeric_type numeric.F32Gt = record { takes = t.F32 ∷ t.F32 ∷ []; leaves = t.I32 ∷ [] }
numeric_type numeric.F32Le = record { takes = t.F32 ∷ t.F32 ∷ []; leaves = t.I32 ∷ [] }
numeric_type numeric.F32Ge = record { takes = t.F32 ∷ t.F32 ∷ []; leaves = t.I32 ∷ [] }
numeric_type numeric.F64Eq = record { takes = t.F64 ∷ t.F64 ∷ []; leaves = t.I32 ∷ [] }
numeric_type numeric.F64Ne = record { takes = t.F64 ∷ t.F64 ∷ []; leaves = t.I32 ∷ [] }
numeric_type numeric.F64Lt = record { takes = t.F64 ∷ t.F64 ∷ []; leaves = t.I32 ∷ [] }
numeric_type numeric.F64Gt = record { takes = t.F64 ∷ t.F64 ∷ []; leaves = t.I32 ∷ [] }
numeric_type numeric.F64Le = record { takes = t.F64 ∷ t.F64 ∷ []; leaves = t.I32 ∷ [] }
numeric_type numeric.F64Ge = record { takes = t.F64 ∷ t.F64 ∷ []; leaves = t.I32 ∷ [] }
numeric_type numeric.I32Clz = record { takes = t.I32 ∷ []; leaves = t.I32 ∷ [] }
numeric_type numeric.I32Ctz = record { takes = t.I32 ∷ []; leaves = t.I32 ∷ [] }
numeric_type numeric.I32Popcnt = record { takes = t.I32 ∷ []; leaves = t.I32 ∷ [] }
numeric_type numeric.I32Add = record { takes = t.I32 ∷ t.I32 ∷ []; leaves = t.I32 ∷ [] }
numeric_type numeric.I32Sub = record { takes = t.I32 ∷ t.I32 ∷ []; leaves = t.I32 ∷ [] }
numeric_type numeric.I32Mul = record { takes = t.I32 ∷ t.I32 ∷ []; leaves = t.I32 ∷ [] }
numeric_type numeric.I32DivS = record { takes = t.I32 ∷ t.I32 ∷ []; leaves = t.I32 ∷ [] }
numeric_type numeric.I32DivU = record { takes = t.I32 ∷ t.I32 ∷ []; leaves = t.I32 ∷ [] }
numeric_type numeric.I32RemS = record { takes = t.I32 ∷ t.I32 ∷ []; leaves = t.I32 ∷ [] }
numeric_type numeric.I32RemU = record { takes = t.I32 ∷ t.I32 ∷ []; leaves = t.I32 ∷ [] }
numeric_type numeric.I32And = record { takes = t.I32 ∷ t.I32 ∷ []; leaves = t.I32 ∷ [] }
numeric_type numeric.I32Or = record { takes = t.I32 ∷ t.I32 ∷ []; leaves = t.I32 ∷ [] }
numeric_type numeric.I32Xor = record { takes = t.I32 ∷ t.I32 ∷ []; leaves = t.I32 ∷ [] }
numeric_type numeric.I32Shl = record { takes = t.I32 ∷ t.I32 ∷ []; leaves = t.I32 ∷ [] }
numeric_type numeric.I32ShrS = record { takes = t.I32 ∷ t.I32 ∷ []; leaves = t.I32 ∷ [] }
numeric_type numeric.I32ShrU = record { takes = t.I32 ∷ t.I32 ∷ []; leaves = t.I32 ∷ [] }
numeric_type numeric.I32Rotl = record { takes = t.I32 ∷ t.I32 ∷ []; leaves = t.I32 ∷ [] }
numeric_type numeric.I32Rotr = record { takes = t.I32 ∷ t.I32 ∷ []; leaves = t.I32 ∷ [] }
numeric_type numeric.I64Clz = record { takes = t.I64 ∷ []; leaves = t.I64 ∷ [] }
numeric_type numeric.I64Ctz = record { takes = t.I64 ∷ []; leaves = t.I64 ∷ [] }
numeric_type numeric.I64Popcnt = record { takes = t.I64 ∷ []; leaves = t.I64 ∷ [] }
numeric_type numeric.I64Add = record { takes = t.I64 ∷ t.I64 ∷ []; leaves = t.I64 ∷ [] }
numeric_type numeric.I64Sub = record { takes = t.I64 ∷ t.I64 ∷ []; leaves = t.I64 ∷ [] }
numeric_type numeric.I64Mul = record { takes = t.I64 ∷ t.I64 ∷ []; leaves = t.I64 ∷ [] }
numeric_type numeric.I64DivS = record { takes = t.I64 ∷ t.I64 ∷ []; leaves = t.I64 ∷ [] }
numeric_type numeric.I64DivU = record { takes = t.I64 ∷ t.I64 ∷ []; leaves = t.I64 ∷ [] }
numeric_type numeric.I64RemS = record { takes = t.I64 ∷ t.I64 ∷ []; leaves = t.I64 ∷ [] }
numeric_type numeric.I64RemU = record { takes = t.I64 ∷ t.I64 ∷ []; leaves = t.I64 ∷ [] }
numeric_type numeric.I64And = record { takes = t.I64 ∷ t.I64 ∷ []; leaves = t.I64 ∷ [] }
numeric_type numeric.I64Or = record { takes = t.I64 ∷ t.I64 ∷ []; leaves = t.I64 ∷ [] }
numeric_type numeric.I64Xor = record { takes = t.I64 ∷ t.I64 ∷ []; leaves = t.I64 ∷ [] }
numeric_type numeric.I64Shl = record { takes = t.I64 ∷ t.I64 ∷ []; leaves = t.I64 ∷ [] }
numeric_type numeric.I64ShrS = record { takes = t.I64 ∷ t.I64 ∷ []; leaves = t.I64 ∷ [] }
numeric_type numeric.I64ShrU = record { takes = t.I64 ∷ t.I64 ∷ []; leaves = t.I64 ∷ [] }
numeric_type numeric.I64Rotl = record { takes = t.I64 ∷ t.I64 ∷ []; leaves = t.I64 ∷ [] }
numeric_type numeric.I64Rotr = record { takes = t.I64 ∷ t.I64 ∷ []; leaves = t.I64 ∷ [] }
numeric_type numeric.F32Abs = record { takes = t.F32 ∷ []; leaves = t.F32 ∷ [] }
numeric_type numeric.F32Neg = record { takes = t.F32 ∷ []; leaves = t.F32 ∷ [] }
numeric_type numeric.F32Ceil = record { takes = t.F32 ∷ []; leaves = t.F32 ∷ [] }
numeric_type numeric.F32Floor = record { takes = t.F32 ∷ []; leaves = t.F32 ∷ [] }
numeric_type numeric.F32Trunc = record { takes = t.F32 ∷ []; leaves = t.F32 ∷ [] }
numeric_type numeric.F32Nearest = record { takes = t.F32 ∷ []; leaves = t.F32 ∷ [] }
numeric_type numeric.F32Sqrt = record { takes = t.F32 ∷ []; leaves = t.F32 ∷ [] }
numeric_type numeric.F32Add = record { takes = t.F32 ∷ t.F32 ∷ []; leaves = t.F32 ∷ [] }
numeric_type numeric.F32Sub = record { takes = t.F32 ∷ t.F32 ∷ []; leaves = t.F32 ∷ [] }
numeric_type numeric.F32Mul = record { takes = t.F32 ∷ t.F32 ∷ []; leaves = t.F32 ∷ [] }
numeric_type numeric.F32Div = record { takes = t.F32 ∷ t.F32 ∷ []; leaves = t.F32 ∷ [] }
numeric_type numeric.F32Min = record { takes = t.F32 ∷ t.F32 ∷ []; leaves = t.F32 ∷ [] }
numeric_type numeric.F32Max = record { takes = t.F32 ∷ t.F32 ∷ []; leaves = t.F32 ∷ [] }
numeric_type numeric.F32Copysign = record { takes = t.F32 ∷ t.F32 ∷ []; leaves = t.F32 ∷ [] }
numeric_type numeric.F64Abs = record { takes = t.F64 ∷ []; leaves = t.F64 ∷ [] }
numeric_type numeric.F64Neg = record { takes = t.F64 ∷ []; leaves = t.F64 ∷ [] }
numeric_type numeric.F64Ceil = record { takes = t.F64 ∷ []; leaves = t.F64 ∷ [] }
numeric_type numeric.F64Floor = record { takes = t.F64 ∷ []; leaves = t.F64 ∷ [] }
numeric_type numeric.F64Trunc = record { takes = t.F64 ∷ []; leaves = t.F64 ∷ [] }
numeric_type numeric.F64Nearest = record { takes = t.F64 ∷ []; leaves = t.F64 ∷ [] }
numeric_type numeric.F64Sqrt = record { takes = t.F64 ∷ []; leaves = t.F64 ∷ [] }
numeric_type numeric.F64Add = record { takes = t.F64 ∷ t.F64 ∷ []; leaves = t.F64 ∷ [] }
numeric_type numeric.F64Sub = record { takes = t.F64 ∷ t.F64 ∷ []; leaves = t.F64 ∷ [] }
numeric_type numeric.F64Mul = record { takes = t.F64 ∷ t.F64 ∷ []; leaves = t.F64 ∷ [] }
numeric_type numeric.F64Div = record { takes = t.F64 ∷ t.F64 ∷ []; leaves = t.F64 ∷ [] }
numeric_type numeric.F64Min = record { takes = t.F64 ∷ t.F64 ∷ []; leaves = t.F64 ∷ [] }
numeric_type numeric.F64Max = record { takes = t.F64 ∷ t.F64 ∷ []; leaves = t.F64 ∷ [] }
numeric_type numeric.F64Copysign = record { takes = t.F64 ∷ t.F64 ∷ []; leaves = t.F64 ∷ [] }
numeric_type numeric.I32WrapI64 = record { takes = t.I64 ∷ []; leaves = t.I32 ∷ [] }
numeric_type numeric.I32TruncF32S = record { takes = t.F32 ∷ []; leaves = t.I32 ∷ [] }
numeric_type numeric.I32TruncF32U = record { takes = t.F32 ∷ []; leaves = t.I32 ∷ [] }
numeric_type numeric.I32TruncF64S = record { takes = t.F64 ∷ []; leaves = t.I32 ∷ [] }
numeric_type numeric.I32TruncF64U = record { takes = t.F64 ∷ []; leaves = t.I32 ∷ [] }
numeric_type numeric.I64ExtendI32S = record { takes = t.I32 ∷ []; leaves = t.I64 ∷ [] }
numeric_type numeric.I64ExtendI32U = record { takes = t.I32 ∷ []; leaves = t.I64 ∷ [] }
numeric_type numeric.I64TruncF32S = record { takes = t.F32 ∷ []; leaves = t.I64 ∷ [] }
numeric_type numeric.I64TruncF32U = record { takes = t.F32 ∷ []; leaves = t.I64 ∷ [] }
numeric_type numeric.I64TruncF64S = record { takes = t.F64 ∷ []; leaves = t.I64 ∷ [] }
numeric_type numeric.I64TruncF64U = record { takes = t.F64 ∷ []; leaves = t.I64 ∷ [] }
numeric_type numeric.F32ConvertI32S = record { takes = t.I32 ∷ []; leaves = t.F32 ∷ [] }
numeric_type numeric.F32ConvertI32U = record { takes = t.I32 ∷ []; leaves = t.F32 ∷ [] }
numeric_type numeric.F32ConvertI64S = record { takes = t.I64 ∷ []; leaves = t.F32 ∷ [] }
numeric_type numeric.F32ConvertI64U = record { takes = t.I64 ∷ []; leaves = t.F32 ∷ [] }
numeric_type numeric.F32DemoteF64 = record { takes = t.F64 ∷ []; leaves = t.F32 ∷ [] }
numeric_type numeric.F64ConvertI32S = record { takes = t.I32 ∷ []; leaves = t.F64 ∷ [] }
numeric_type numeric.F64ConvertI32U = record { takes = t.I32 ∷ []; leaves = t.F64 ∷ [] }
numeric_type numeric.F64ConvertI64S = record { takes = t.I64 ∷ []; leaves = t.F64 ∷ [] }
numeric_type numeric.F64ConvertI64U = record { takes = t.I64 ∷ []; leaves = t.F64 ∷ [] }
numeric_type numeric.F64PromoteF32 = record { takes = t.F32 ∷ []; leaves = t.F64 ∷ [] }
numeric_type numeric.I32ReinterpretF32 = record { takes = t.F32 ∷ []; leaves = t.I32 ∷ [] }
numeric_type numeric.I64ReinterpretF64 = record { takes = t.F64 ∷ []; leaves = t.I64 ∷ [] }
numeric_type numeric.F32ReinterpretI32 = record { takes = t.I32 ∷ []; leaves = t.F32 ∷ [] }
numeric_type numeric.F64ReinterpretI64 = record { takes = t.I64 ∷ []; leaves = t.F64 ∷ [] }
numeric_type numeric.I32Extend8S = record { takes = t.I32 ∷ []; leaves = t.I32 ∷ [] }
numeric_type numeric.I32Extend16S = record { takes = t.I32 ∷ []; leaves = t.I32 ∷ [] }
numeric_type numeric.I64Extend8S = record { takes = t.I64 ∷ []; leaves = t.I64 ∷ [] }
numeric_type numeric.I64Extend16S = record { takes = t.I64 ∷ []; leaves = t.I64 ∷ [] }
numeric_type numeric.I64Extend32S = record { takes = t.I64 ∷ []; leaves = t.I64 ∷ [] }
