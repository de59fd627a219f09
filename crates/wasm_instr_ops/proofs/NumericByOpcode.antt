-- Written by tools/lists.py from tools/operators.tsv.
use Rattle.std.proofs.Common.{◌≡◌, ℕ, ◌-◌, List, [], ◌∷◌, map, get_or, refl, Bool, true, ltb, ◌&&◌}
use Rattle.wasm_instr_ops.specs.declared.numeric.NumericOperator.{NumericOperator}
use Rattle.wasm_instr_ops.specs.declared.numeric.NumericOperator.TheVariants as numeric
use Rattle.wasm_instr_ops.specs.Numeric.{numeric_name, numeric_opcode, numeric_immediates}
use Rattle.wasm_imm.specs.Immediate.{Immediate, kind_of}

abbrev operators : List NumericOperator
operators =
    numeric.I32Eqz ∷
    numeric.I32Eq ∷
    numeric.I32Ne ∷
    numeric.I32LtS ∷
    numeric.I32LtU ∷
    numeric.I32GtS ∷
    numeric.I32GtU ∷
    numeric.I32LeS ∷
    numeric.I32LeU ∷
    numeric.I32GeS ∷
    numeric.I32GeU ∷
    numeric.I64Eqz ∷
    numeric.I64Eq ∷
    numeric.I64Ne ∷
    numeric.I64LtS ∷
    numeric.I64LtU ∷
    numeric.I64GtS ∷
    numeric.I64GtU ∷
    numeric.I64LeS ∷
    numeric.I64LeU ∷
    numeric.I64GeS ∷
    numeric.I64GeU ∷
    numeric.F32Eq ∷
    numeric.F32Ne ∷
    numeric.F32Lt ∷
    numeric.F32Gt ∷
    numeric.F32Le ∷
    numeric.F32Ge ∷
    numeric.F64Eq ∷
    numeric.F64Ne ∷
    numeric.F64Lt ∷
    numeric.F64Gt ∷
    numeric.F64Le ∷
    numeric.F64Ge ∷
    numeric.I32Clz ∷
    numeric.I32Ctz ∷
    numeric.I32Popcnt ∷
    numeric.I32Add ∷
    numeric.I32Sub ∷
    numeric.I32Mul ∷
    numeric.I32DivS ∷
    numeric.I32DivU ∷
    numeric.I32RemS ∷
    numeric.I32RemU ∷
    numeric.I32And ∷
    numeric.I32Or ∷
    numeric.I32Xor ∷
    numeric.I32Shl ∷
    numeric.I32ShrS ∷
    numeric.I32ShrU ∷
    numeric.I32Rotl ∷
    numeric.I32Rotr ∷
    numeric.I64Clz ∷
    numeric.I64Ctz ∷
    numeric.I64Popcnt ∷
    numeric.I64Add ∷
    numeric.I64Sub ∷
    numeric.I64Mul ∷
    numeric.I64DivS ∷
    numeric.I64DivU ∷
    numeric.I64RemS ∷
    numeric.I64RemU ∷
    numeric.I64And ∷
    numeric.I64Or ∷
    numeric.I64Xor ∷
    numeric.I64Shl ∷
    numeric.I64ShrS ∷
    numeric.I64ShrU ∷
    numeric.I64Rotl ∷
    numeric.I64Rotr ∷
    numeric.F32Abs ∷
    numeric.F32Neg ∷
    numeric.F32Ceil ∷
    numeric.F32Floor ∷
    numeric.F32Trunc ∷
    numeric.F32Nearest ∷
    numeric.F32Sqrt ∷
    numeric.F32Add ∷
    numeric.F32Sub ∷
    numeric.F32Mul ∷
    numeric.F32Div ∷
    numeric.F32Min ∷
    numeric.F32Max ∷
    numeric.F32Copysign ∷
    numeric.F64Abs ∷
    numeric.F64Neg ∷
    numeric.F64Ceil ∷
    numeric.F64Floor ∷
    numeric.F64Trunc ∷
    numeric.F64Nearest ∷
    numeric.F64Sqrt ∷
    numeric.F64Add ∷
    numeric.F64Sub ∷
    numeric.F64Mul ∷
    numeric.F64Div ∷
    numeric.F64Min ∷
    numeric.F64Max ∷
    numeric.F64Copysign ∷
    numeric.I32WrapI64 ∷
    numeric.I32TruncF32S ∷
    numeric.I32TruncF32U ∷
    numeric.I32TruncF64S ∷
    numeric.I32TruncF64U ∷
    numeric.I64ExtendI32S ∷
    numeric.I64ExtendI32U ∷
    numeric.I64TruncF32S ∷
    numeric.I64TruncF32U ∷
    numeric.I64TruncF64S ∷
    numeric.I64TruncF64U ∷
    numeric.F32ConvertI32S ∷
    numeric.F32ConvertI32U ∷
    numeric.F32ConvertI64S ∷
    numeric.F32ConvertI64U ∷
    numeric.F32DemoteF64 ∷
    numeric.F64ConvertI32S ∷
    numeric.F64ConvertI32U ∷
    numeric.F64ConvertI64S ∷
    numeric.F64ConvertI64U ∷
    numeric.F64PromoteF32 ∷
    numeric.I32ReinterpretF32 ∷
    numeric.I64ReinterpretF64 ∷
    numeric.F32ReinterpretI32 ∷
    numeric.F64ReinterpretI64 ∷
    numeric.I32Extend8S ∷
    numeric.I32Extend16S ∷
    numeric.I64Extend8S ∷
    numeric.I64Extend16S ∷
    numeric.I64Extend32S ∷
    []

abbrev pub numeric_at : ℕ → List Immediate → NumericOperator
numeric_at code is = get_or operators (code - 0x45) numeric.I32Eqz

pub numeric_by_opcode : (op : NumericOperator) → numeric_at (numeric_opcode op) (numeric_immediates op) ≡ op
numeric_by_opcode numeric.I32Eqz = refl
numeric_by_opcode op = refl

pub numeric_kinds : (op : NumericOperator) → map kind_of (numeric_immediates op) ≡ map kind_of (numeric_immediates (numeric_at (numeric_opcode op) []))
numeric_kinds numeric.I32Eqz = refl
numeric_kinds op = refl

pub numeric_named : (op : NumericOperator) → numeric_name op ≡ numeric_name (numeric_at (numeric_opcode op) [])
numeric_named numeric.I32Eqz = refl
numeric_named op = refl

abbrev pub is_numeric : ℕ → Bool
is_numeric code = ltb 0x44 code && ltb code 0xc5

pub numeric_range : (op : NumericOperator) → is_numeric (numeric_opcode op) ≡ true
numeric_range numeric.I32Eqz = refl
numeric_range op = refl

pub numeric_short : (op : NumericOperator) → ltb (numeric_opcode op) 0xfb ≡ true
numeric_short numeric.I32Eqz = refl
numeric_short op = refl
