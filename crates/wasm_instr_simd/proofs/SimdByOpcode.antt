-- Written by tools/lists.py from tools/operators.tsv.
use Rattle.std.proofs.Common.{◌≡◌, ℕ, List, [], ◌∷◌, map, get_or, refl}
use Rattle.wasm_instr_simd.specs.declared.simd.SimdOperator.{SimdOperator}
use Rattle.wasm_instr_simd.specs.declared.simd.SimdOperator.TheVariants as simd
use Rattle.wasm_instr_simd.specs.Simd.{simd_name, simd_subopcode, simd_immediates}
use Rattle.wasm_imm.specs.Immediate.{Immediate, kind_of}
use Rattle.wasm_imm.proofs.Values.{tail_of, number_in, bytes_in, vector_in, argument_in}

abbrev makers : List (List Immediate → SimdOperator)
makers =
    (λ is. simd.V128Load (argument_in is)) ∷
    (λ is. simd.V128Load8x8S (argument_in is)) ∷
    (λ is. simd.V128Load8x8U (argument_in is)) ∷
    (λ is. simd.V128Load16x4S (argument_in is)) ∷
    (λ is. simd.V128Load16x4U (argument_in is)) ∷
    (λ is. simd.V128Load32x2S (argument_in is)) ∷
    (λ is. simd.V128Load32x2U (argument_in is)) ∷
    (λ is. simd.V128Load8Splat (argument_in is)) ∷
    (λ is. simd.V128Load16Splat (argument_in is)) ∷
    (λ is. simd.V128Load32Splat (argument_in is)) ∷
    (λ is. simd.V128Load64Splat (argument_in is)) ∷
    (λ is. simd.V128Store (argument_in is)) ∷
    (λ is. simd.V128Const (vector_in is)) ∷
    (λ is. simd.I8x16Shuffle (bytes_in is)) ∷
    (λ is. simd.I8x16Swizzle) ∷
    (λ is. simd.I8x16Splat) ∷
    (λ is. simd.I16x8Splat) ∷
    (λ is. simd.I32x4Splat) ∷
    (λ is. simd.I64x2Splat) ∷
    (λ is. simd.F32x4Splat) ∷
    (λ is. simd.F64x2Splat) ∷
    (λ is. simd.I8x16ExtractLaneS (number_in is)) ∷
    (λ is. simd.I8x16ExtractLaneU (number_in is)) ∷
    (λ is. simd.I8x16ReplaceLane (number_in is)) ∷
    (λ is. simd.I16x8ExtractLaneS (number_in is)) ∷
    (λ is. simd.I16x8ExtractLaneU (number_in is)) ∷
    (λ is. simd.I16x8ReplaceLane (number_in is)) ∷
    (λ is. simd.I32x4ExtractLane (number_in is)) ∷
    (λ is. simd.I32x4ReplaceLane (number_in is)) ∷
    (λ is. simd.I64x2ExtractLane (number_in is)) ∷
    (λ is. simd.I64x2ReplaceLane (number_in is)) ∷
    (λ is. simd.F32x4ExtractLane (number_in is)) ∷
    (λ is. simd.F32x4ReplaceLane (number_in is)) ∷
    (λ is. simd.F64x2ExtractLane (number_in is)) ∷
    (λ is. simd.F64x2ReplaceLane (number_in is)) ∷
    (λ is. simd.I8x16Eq) ∷
    (λ is. simd.I8x16Ne) ∷
    (λ is. simd.I8x16LtS) ∷
    (λ is. simd.I8x16LtU) ∷
    (λ is. simd.I8x16GtS) ∷
    (λ is. simd.I8x16GtU) ∷
    (λ is. simd.I8x16LeS) ∷
    (λ is. simd.I8x16LeU) ∷
    (λ is. simd.I8x16GeS) ∷
    (λ is. simd.I8x16GeU) ∷
    (λ is. simd.I16x8Eq) ∷
    (λ is. simd.I16x8Ne) ∷
    (λ is. simd.I16x8LtS) ∷
    (λ is. simd.I16x8LtU) ∷
    (λ is. simd.I16x8GtS) ∷
    (λ is. simd.I16x8GtU) ∷
    (λ is. simd.I16x8LeS) ∷
    (λ is. simd.I16x8LeU) ∷
    (λ is. simd.I16x8GeS) ∷
    (λ is. simd.I16x8GeU) ∷
    (λ is. simd.I32x4Eq) ∷
    (λ is. simd.I32x4Ne) ∷
    (λ is. simd.I32x4LtS) ∷
    (λ is. simd.I32x4LtU) ∷
    (λ is. simd.I32x4GtS) ∷
    (λ is. simd.I32x4GtU) ∷
    (λ is. simd.I32x4LeS) ∷
    (λ is. simd.I32x4LeU) ∷
    (λ is. simd.I32x4GeS) ∷
    (λ is. simd.I32x4GeU) ∷
    (λ is. simd.F32x4Eq) ∷
    (λ is. simd.F32x4Ne) ∷
    (λ is. simd.F32x4Lt) ∷
    (λ is. simd.F32x4Gt) ∷
    (λ is. simd.F32x4Le) ∷
    (λ is. simd.F32x4Ge) ∷
    (λ is. simd.F64x2Eq) ∷
    (λ is. simd.F64x2Ne) ∷
    (λ is. simd.F64x2Lt) ∷
    (λ is. simd.F64x2Gt) ∷
    (λ is. simd.F64x2Le) ∷
    (λ is. simd.F64x2Ge) ∷
    (λ is. simd.V128Not) ∷
    (λ is. simd.V128And) ∷
    (λ is. simd.V128AndNot) ∷
    (λ is. simd.V128Or) ∷
    (λ is. simd.V128Xor) ∷
    (λ is. simd.V128Bitselect) ∷
    (λ is. simd.V128AnyTrue) ∷
    (λ is. simd.V128Load8Lane (argument_in is) (number_in (tail_of is))) ∷
    (λ is. simd.V128Load16Lane (argument_in is) (number_in (tail_of is))) ∷
    (λ is. simd.V128Load32Lane (argument_in is) (number_in (tail_of is))) ∷
    (λ is. simd.V128Load64Lane (argument_in is) (number_in (tail_of is))) ∷
    (λ is. simd.V128Store8Lane (argument_in is) (number_in (tail_of is))) ∷
    (λ is. simd.V128Store16Lane (argument_in is) (number_in (tail_of is))) ∷
    (λ is. simd.V128Store32Lane (argument_in is) (number_in (tail_of is))) ∷
    (λ is. simd.V128Store64Lane (argument_in is) (number_in (tail_of is))) ∷
    (λ is. simd.V128Load32Zero (argument_in is)) ∷
    (λ is. simd.V128Load64Zero (argument_in is)) ∷
    (λ is. simd.F32x4DemoteF64x2Zero) ∷
    (λ is. simd.F64x2PromoteLowF32x4) ∷
    (λ is. simd.I8x16Abs) ∷
    (λ is. simd.I8x16Neg) ∷
    (λ is. simd.I8x16Popcnt) ∷
    (λ is. simd.I8x16AllTrue) ∷
    (λ is. simd.I8x16Bitmask) ∷
    (λ is. simd.I8x16NarrowI16x8S) ∷
    (λ is. simd.I8x16NarrowI16x8U) ∷
    (λ is. simd.F32x4Ceil) ∷
    (λ is. simd.F32x4Floor) ∷
    (λ is. simd.F32x4Trunc) ∷
    (λ is. simd.F32x4Nearest) ∷
    (λ is. simd.I8x16Shl) ∷
    (λ is. simd.I8x16ShrS) ∷
    (λ is. simd.I8x16ShrU) ∷
    (λ is. simd.I8x16Add) ∷
    (λ is. simd.I8x16AddSatS) ∷
    (λ is. simd.I8x16AddSatU) ∷
    (λ is. simd.I8x16Sub) ∷
    (λ is. simd.I8x16SubSatS) ∷
    (λ is. simd.I8x16SubSatU) ∷
    (λ is. simd.F64x2Ceil) ∷
    (λ is. simd.F64x2Floor) ∷
    (λ is. simd.I8x16MinS) ∷
    (λ is. simd.I8x16MinU) ∷
    (λ is. simd.I8x16MaxS) ∷
    (λ is. simd.I8x16MaxU) ∷
    (λ is. simd.F64x2Trunc) ∷
    (λ is. simd.I8x16AvgrU) ∷
    (λ is. simd.I16x8ExtAddPairwiseI8x16S) ∷
    (λ is. simd.I16x8ExtAddPairwiseI8x16U) ∷
    (λ is. simd.I32x4ExtAddPairwiseI16x8S) ∷
    (λ is. simd.I32x4ExtAddPairwiseI16x8U) ∷
    (λ is. simd.I16x8Abs) ∷
    (λ is. simd.I16x8Neg) ∷
    (λ is. simd.I16x8Q15MulrSatS) ∷
    (λ is. simd.I16x8AllTrue) ∷
    (λ is. simd.I16x8Bitmask) ∷
    (λ is. simd.I16x8NarrowI32x4S) ∷
    (λ is. simd.I16x8NarrowI32x4U) ∷
    (λ is. simd.I16x8ExtendLowI8x16S) ∷
    (λ is. simd.I16x8ExtendHighI8x16S) ∷
    (λ is. simd.I16x8ExtendLowI8x16U) ∷
    (λ is. simd.I16x8ExtendHighI8x16U) ∷
    (λ is. simd.I16x8Shl) ∷
    (λ is. simd.I16x8ShrS) ∷
    (λ is. simd.I16x8ShrU) ∷
    (λ is. simd.I16x8Add) ∷
    (λ is. simd.I16x8AddSatS) ∷
    (λ is. simd.I16x8AddSatU) ∷
    (λ is. simd.I16x8Sub) ∷
    (λ is. simd.I16x8SubSatS) ∷
    (λ is. simd.I16x8SubSatU) ∷
    (λ is. simd.F64x2Nearest) ∷
    (λ is. simd.I16x8Mul) ∷
    (λ is. simd.I16x8MinS) ∷
    (λ is. simd.I16x8MinU) ∷
    (λ is. simd.I16x8MaxS) ∷
    (λ is. simd.I16x8MaxU) ∷
    (λ is. simd.V128Load (argument_in is)) ∷
    (λ is. simd.I16x8AvgrU) ∷
    (λ is. simd.I16x8ExtMulLowI8x16S) ∷
    (λ is. simd.I16x8ExtMulHighI8x16S) ∷
    (λ is. simd.I16x8ExtMulLowI8x16U) ∷
    (λ is. simd.I16x8ExtMulHighI8x16U) ∷
    (λ is. simd.I32x4Abs) ∷
    (λ is. simd.I32x4Neg) ∷
    (λ is. simd.V128Load (argument_in is)) ∷
    (λ is. simd.I32x4AllTrue) ∷
    (λ is. simd.I32x4Bitmask) ∷
    (λ is. simd.V128Load (argument_in is)) ∷
    (λ is. simd.V128Load (argument_in is)) ∷
    (λ is. simd.I32x4ExtendLowI16x8S) ∷
    (λ is. simd.I32x4ExtendHighI16x8S) ∷
    (λ is. simd.I32x4ExtendLowI16x8U) ∷
    (λ is. simd.I32x4ExtendHighI16x8U) ∷
    (λ is. simd.I32x4Shl) ∷
    (λ is. simd.I32x4ShrS) ∷
    (λ is. simd.I32x4ShrU) ∷
    (λ is. simd.I32x4Add) ∷
    (λ is. simd.V128Load (argument_in is)) ∷
    (λ is. simd.V128Load (argument_in is)) ∷
    (λ is. simd.I32x4Sub) ∷
    (λ is. simd.V128Load (argument_in is)) ∷
    (λ is. simd.V128Load (argument_in is)) ∷
    (λ is. simd.V128Load (argument_in is)) ∷
    (λ is. simd.I32x4Mul) ∷
    (λ is. simd.I32x4MinS) ∷
    (λ is. simd.I32x4MinU) ∷
    (λ is. simd.I32x4MaxS) ∷
    (λ is. simd.I32x4MaxU) ∷
    (λ is. simd.I32x4DotI16x8S) ∷
    (λ is. simd.V128Load (argument_in is)) ∷
    (λ is. simd.I32x4ExtMulLowI16x8S) ∷
    (λ is. simd.I32x4ExtMulHighI16x8S) ∷
    (λ is. simd.I32x4ExtMulLowI16x8U) ∷
    (λ is. simd.I32x4ExtMulHighI16x8U) ∷
    (λ is. simd.I64x2Abs) ∷
    (λ is. simd.I64x2Neg) ∷
    (λ is. simd.V128Load (argument_in is)) ∷
    (λ is. simd.I64x2AllTrue) ∷
    (λ is. simd.I64x2Bitmask) ∷
    (λ is. simd.V128Load (argument_in is)) ∷
    (λ is. simd.V128Load (argument_in is)) ∷
    (λ is. simd.I64x2ExtendLowI32x4S) ∷
    (λ is. simd.I64x2ExtendHighI32x4S) ∷
    (λ is. simd.I64x2ExtendLowI32x4U) ∷
    (λ is. simd.I64x2ExtendHighI32x4U) ∷
    (λ is. simd.I64x2Shl) ∷
    (λ is. simd.I64x2ShrS) ∷
    (λ is. simd.I64x2ShrU) ∷
    (λ is. simd.I64x2Add) ∷
    (λ is. simd.V128Load (argument_in is)) ∷
    (λ is. simd.V128Load (argument_in is)) ∷
    (λ is. simd.I64x2Sub) ∷
    (λ is. simd.V128Load (argument_in is)) ∷
    (λ is. simd.V128Load (argument_in is)) ∷
    (λ is. simd.V128Load (argument_in is)) ∷
    (λ is. simd.I64x2Mul) ∷
    (λ is. simd.I64x2Eq) ∷
    (λ is. simd.I64x2Ne) ∷
    (λ is. simd.I64x2LtS) ∷
    (λ is. simd.I64x2GtS) ∷
    (λ is. simd.I64x2LeS) ∷
    (λ is. simd.I64x2GeS) ∷
    (λ is. simd.I64x2ExtMulLowI32x4S) ∷
    (λ is. simd.I64x2ExtMulHighI32x4S) ∷
    (λ is. simd.I64x2ExtMulLowI32x4U) ∷
    (λ is. simd.I64x2ExtMulHighI32x4U) ∷
    (λ is. simd.F32x4Abs) ∷
    (λ is. simd.F32x4Neg) ∷
    (λ is. simd.V128Load (argument_in is)) ∷
    (λ is. simd.F32x4Sqrt) ∷
    (λ is. simd.F32x4Add) ∷
    (λ is. simd.F32x4Sub) ∷
    (λ is. simd.F32x4Mul) ∷
    (λ is. simd.F32x4Div) ∷
    (λ is. simd.F32x4Min) ∷
    (λ is. simd.F32x4Max) ∷
    (λ is. simd.F32x4PMin) ∷
    (λ is. simd.F32x4PMax) ∷
    (λ is. simd.F64x2Abs) ∷
    (λ is. simd.F64x2Neg) ∷
    (λ is. simd.V128Load (argument_in is)) ∷
    (λ is. simd.F64x2Sqrt) ∷
    (λ is. simd.F64x2Add) ∷
    (λ is. simd.F64x2Sub) ∷
    (λ is. simd.F64x2Mul) ∷
    (λ is. simd.F64x2Div) ∷
    (λ is. simd.F64x2Min) ∷
    (λ is. simd.F64x2Max) ∷
    (λ is. simd.F64x2PMin) ∷
    (λ is. simd.F64x2PMax) ∷
    (λ is. simd.I32x4TruncSatF32x4S) ∷
    (λ is. simd.I32x4TruncSatF32x4U) ∷
    (λ is. simd.F32x4ConvertI32x4S) ∷
    (λ is. simd.F32x4ConvertI32x4U) ∷
    (λ is. simd.I32x4TruncSatF64x2SZero) ∷
    (λ is. simd.I32x4TruncSatF64x2UZero) ∷
    (λ is. simd.F64x2ConvertLowI32x4S) ∷
    (λ is. simd.F64x2ConvertLowI32x4U) ∷
    (λ is. simd.I8x16RelaxedSwizzle) ∷
    (λ is. simd.I32x4RelaxedTruncF32x4S) ∷
    (λ is. simd.I32x4RelaxedTruncF32x4U) ∷
    (λ is. simd.I32x4RelaxedTruncF64x2SZero) ∷
    (λ is. simd.I32x4RelaxedTruncF64x2UZero) ∷
    (λ is. simd.F32x4RelaxedMadd) ∷
    (λ is. simd.F32x4RelaxedNmadd) ∷
    (λ is. simd.F64x2RelaxedMadd) ∷
    (λ is. simd.F64x2RelaxedNmadd) ∷
    (λ is. simd.I8x16RelaxedLaneselect) ∷
    (λ is. simd.I16x8RelaxedLaneselect) ∷
    (λ is. simd.I32x4RelaxedLaneselect) ∷
    (λ is. simd.I64x2RelaxedLaneselect) ∷
    (λ is. simd.F32x4RelaxedMin) ∷
    (λ is. simd.F32x4RelaxedMax) ∷
    (λ is. simd.F64x2RelaxedMin) ∷
    (λ is. simd.F64x2RelaxedMax) ∷
    (λ is. simd.I16x8RelaxedQ15mulrS) ∷
    (λ is. simd.I16x8RelaxedDotI8x16I7x16S) ∷
    (λ is. simd.I32x4RelaxedDotI8x16I7x16AddS) ∷
    []

abbrev pub simd_at : ℕ → List Immediate → SimdOperator
simd_at code is = get_or makers code (λ is. simd.V128Load (argument_in is)) is

pub simd_by_opcode : (op : SimdOperator) → simd_at (simd_subopcode op) (simd_immediates op) ≡ op
simd_by_opcode (simd.V128Load memarg) = refl
simd_by_opcode op = refl

pub simd_kinds : (op : SimdOperator) → map kind_of (simd_immediates op) ≡ map kind_of (simd_immediates (simd_at (simd_subopcode op) []))
simd_kinds (simd.V128Load memarg) = refl
simd_kinds op = refl

pub simd_named : (op : SimdOperator) → simd_name op ≡ simd_name (simd_at (simd_subopcode op) [])
simd_named (simd.V128Load memarg) = refl
simd_named op = refl
