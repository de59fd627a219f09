-- Written by tools/lists.py from tools/operators.tsv.
-- Specification: Vector Instructions; Appendix, Index of Instructions.
use Rattle.std.specs.Prelude.{[], ◌∷◌}
use Rattle.wasm_instr_simd.specs.declared.simd.SimdOperator.{SimdOperator}
use Rattle.wasm_instr_simd.specs.declared.simd.SimdOperator.TheVariants as simd
use Rattle.wasm_signatures.specs.Types.{InstructionType}
use Rattle.wasm_signatures.specs.declared.operand_type.OperandType.TheVariants as t

-- The types of the operators with the prefix byte 0xfd.
abbrev pub simd_type : SimdOperator → InstructionType
simd_type (simd.V128Load _) = record { takes = t.Address ∷ []; leaves = t.V128 ∷ [] }
simd_type (simd.V128Load8x8S _) = record { takes = t.Address ∷ []; leaves = t.V128 ∷ [] }
simd_type (simd.V128Load8x8U _) = record { takes = t.Address ∷ []; leaves = t.V128 ∷ [] }
simd_type (simd.V128Load16x4S _) = record { takes = t.Address ∷ []; leaves = t.V128 ∷ [] }
simd_type (simd.V128Load16x4U _) = record { takes = t.Address ∷ []; leaves = t.V128 ∷ [] }
simd_type (simd.V128Load32x2S _) = record { takes = t.Address ∷ []; leaves = t.V128 ∷ [] }
simd_type (simd.V128Load32x2U _) = record { takes = t.Address ∷ []; leaves = t.V128 ∷ [] }
simd_type (simd.V128Load8Splat _) = record { takes = t.Address ∷ []; leaves = t.V128 ∷ [] }
simd_type (simd.V128Load16Splat _) = record { takes = t.Address ∷ []; leaves = t.V128 ∷ [] }
simd_type (simd.V128Load32Splat _) = record { takes = t.Address ∷ []; leaves = t.V128 ∷ [] }
simd_type (simd.V128Load64Splat _) = record { takes = t.Address ∷ []; leaves = t.V128 ∷ [] }
simd_type (simd.V128Load32Zero _) = record { takes = t.Address ∷ []; leaves = t.V128 ∷ [] }
simd_type (simd.V128Load64Zero _) = record { takes = t.Address ∷ []; leaves = t.V128 ∷ [] }
simd_type (simd.V128Store _) = record { takes = t.Address ∷ t.V128 ∷ []; leaves = [] }
simd_type (simd.V128Load8Lane _ _) = record { takes = t.Address ∷ t.V128 ∷ []; leaves = t.V128 ∷ [] }
simd_type (simd.V128Load16Lane _ _) = record { takes = t.Address ∷ t.V128 ∷ []; leaves = t.V128 ∷ [] }
simd_type (simd.V128Load32Lane _ _) = record { takes = t.Address ∷ t.V128 ∷ []; leaves = t.V128 ∷ [] }
simd_type (simd.V128Load64Lane _ _) = record { takes = t.Address ∷ t.V128 ∷ []; leaves = t.V128 ∷ [] }
simd_type (simd.V128Store8Lane _ _) = record { takes = t.Address ∷ t.V128 ∷ []; leaves = [] }
simd_type (simd.V128Store16Lane _ _) = record { takes = t.Address ∷ t.V128 ∷ []; leaves = [] }
simd_type (simd.V128Store32Lane _ _) = record { takes = t.Address ∷ t.V128 ∷ []; leaves = [] }
simd_type (simd.V128Store64Lane _ _) = record { takes = t.Address ∷ t.V128 ∷ []; leaves = [] }
simd_type (simd.V128Const _) = record { takes = []; leaves = t.V128 ∷ [] }
simd_type (simd.I8x16Shuffle _) = record { takes = t.V128 ∷ t.V128 ∷ []; leaves = t.V128 ∷ [] }
simd_type (simd.I8x16ExtractLaneS _) = record { takes = t.V128 ∷ []; leaves = t.I32 ∷ [] }
simd_type (simd.I8x16ExtractLaneU _) = record { takes = t.V128 ∷ []; leaves = t.I32 ∷ [] }
simd_type (simd.I8x16ReplaceLane _) = record { takes = t.V128 ∷ t.I32 ∷ []; leaves = t.V128 ∷ [] }
simd_type (simd.I16x8ExtractLaneS _) = record { takes = t.V128 ∷ []; leaves = t.I32 ∷ [] }
simd_type (simd.I16x8ExtractLaneU _) = record { takes = t.V128 ∷ []; leaves = t.I32 ∷ [] }
simd_type (simd.I16x8ReplaceLane _) = record { takes = t.V128 ∷ t.I32 ∷ []; leaves = t.V128 ∷ [] }
simd_type (simd.I32x4ExtractLane _) = record { takes = t.V128 ∷ []; leaves = t.I32 ∷ [] }
simd_type (simd.I32x4ReplaceLane _) = record { takes = t.V128 ∷ t.I32 ∷ []; leaves = t.V128 ∷ [] }
simd_type (simd.I64x2ExtractLane _) = record { takes = t.V128 ∷ []; leaves = t.I64 ∷ [] }
simd_type (simd.I64x2ReplaceLane _) = record { takes = t.V128 ∷ t.I64 ∷ []; leaves = t.V128 ∷ [] }
simd_type (simd.F32x4ExtractLane _) = record { takes = t.V128 ∷ []; leaves = t.F32 ∷ [] }
simd_type (simd.F32x4ReplaceLane _) = record { takes = t.V128 ∷ t.F32 ∷ []; leaves = t.V128 ∷ [] }
simd_type (simd.F64x2ExtractLane _) = record { takes = t.V128 ∷ []; leaves = t.F64 ∷ [] }
simd_type (simd.F64x2ReplaceLane _) = record { takes = t.V128 ∷ t.F64 ∷ []; leaves = t.V128 ∷ [] }
simd_type simd.I8x16Swizzle = record { takes = t.V128 ∷ t.V128 ∷ []; leaves = t.V128 ∷ [] }
simd_type simd.I8x16Splat = record { takes = t.I32 ∷ []; leaves = t.V128 ∷ [] }
simd_type simd.I16x8Splat = record { takes = t.I32 ∷ []; leaves = t.V128 ∷ [] }
simd_type simd.I32x4Splat = record { takes = t.I32 ∷ []; leaves = t.V128 ∷ [] }
simd_type simd.I64x2Splat = record { takes = t.I64 ∷ []; leaves = t.V128 ∷ [] }
simd_type simd.F32x4Splat = record { takes = t.F32 ∷ []; leaves = t.V128 ∷ [] }
simd_type simd.F64x2Splat = record { takes = t.F64 ∷ []; leaves = t.V128 ∷ [] }
simd_type simd.I8x16Eq = record { takes = t.V128 ∷ t.V128 ∷ []; leaves = t.V128 ∷ [] }
simd_type simd.I8x16Ne = record { takes = t.V128 ∷ t.V128 ∷ []; leaves = t.V128 ∷ [] }
simd_type simd.I8x16LtS = record { takes = t.V128 ∷ t.V128 ∷ []; leaves = t.V128 ∷ [] }
simd_type simd.I8x16LtU = record { takes = t.V128 ∷ t.V128 ∷ []; leaves = t.V128 ∷ [] }
simd_type simd.I8x16GtS = record { takes = t.V128 ∷ t.V128 ∷ []; leaves = t.V128 ∷ [] }
simd_type simd.I8x16GtU = record { takes = t.V128 ∷ t.V128 ∷ []; leaves = t.V128 ∷ [] }
simd_type simd.I8x16LeS = record { takes = t.V128 ∷ t.V128 ∷ []; leaves = t.V128 ∷ [] }
simd_type simd.I8x16LeU = record { takes = t.V128 ∷ t.V128 ∷ []; leaves = t.V128 ∷ [] }
simd_type simd.I8x16GeS = record { takes = t.V128 ∷ t.V128 ∷ []; leaves = t.V128 ∷ [] }
simd_type simd.I8x16GeU = record { takes = t.V128 ∷ t.V128 ∷ []; leaves = t.V128 ∷ [] }
simd_type simd.I16x8Eq = record { takes = t.V128 ∷ t.V128 ∷ []; leaves = t.V128 ∷ [] }
simd_type simd.I16x8Ne = record { takes = t.V128 ∷ t.V128 ∷ []; leaves = t.V128 ∷ [] }
simd_type simd.I16x8LtS = record { takes = t.V128 ∷ t.V128 ∷ []; leaves = t.V128 ∷ [] }
simd_type simd.I16x8LtU = record { takes = t.V128 ∷ t.V128 ∷ []; leaves = t.V128 ∷ [] }
simd_type simd.I16x8GtS = record { takes = t.V128 ∷ t.V128 ∷ []; leaves = t.V128 ∷ [] }
simd_type simd.I16x8GtU = record { takes = t.V128 ∷ t.V128 ∷ []; leaves = t.V128 ∷ [] }
simd_type simd.I16x8LeS = record { takes = t.V128 ∷ t.V128 ∷ []; leaves = t.V128 ∷ [] }
simd_type simd.I16x8LeU = record { takes = t.V128 ∷ t.V128 ∷ []; leaves = t.V128 ∷ [] }
simd_type simd.I16x8GeS = record { takes = t.V128 ∷ t.V128 ∷ []; leaves = t.V128 ∷ [] }
simd_type simd.I16x8GeU = record { takes = t.V128 ∷ t.V128 ∷ []; leaves = t.V128 ∷ [] }
simd_type simd.I32x4Eq = record { takes = t.V128 ∷ t.V128 ∷ []; leaves = t.V128 ∷ [] }
simd_type simd.I32x4Ne = record { takes = t.V128 ∷ t.V128 ∷ []; leaves = t.V128 ∷ [] }
simd_type simd.I32x4LtS = record { takes = t.V128 ∷ t.V128 ∷ []; leaves = t.V128 ∷ [] }
simd_type simd.I32x4LtU = record { takes = t.V128 ∷ t.V128 ∷ []; leaves = t.V128 ∷ [] }
simd_type simd.I32x4GtS = record { takes = t.V128 ∷ t.V128 ∷ []; leaves = t.V128 ∷ [] }
simd_type simd.I32x4GtU = record { takes = t.V128 ∷ t.V128 ∷ []; leaves = t.V128 ∷ [] }
simd_type simd.I32x4LeS = record { takes = t.V128 ∷ t.V128 ∷ []; leaves = t.V128 ∷ [] }
simd_type simd.I32x4LeU = record { takes = t.V128 ∷ t.V128 ∷ []; leaves = t.V128 ∷ [] }
simd_type simd.I32x4GeS = record { takes = t.V128 ∷ t.V128 ∷ []; leaves = t.V128 ∷ [] }
simd_type simd.I32x4GeU = record { takes = t.V128 ∷ t.V128 ∷ []; leaves = t.V128 ∷ [] }
simd_type simd.I64x2Eq = record { takes = t.V128 ∷ t.V128 ∷ []; leaves = t.V128 ∷ [] }
simd_type simd.I64x2Ne = record { takes = t.V128 ∷ t.V128 ∷ []; leaves = t.V128 ∷ [] }
simd_type simd.I64x2LtS = record { takes = t.V128 ∷ t.V128 ∷ []; leaves = t.V128 ∷ [] }
simd_type simd.I64x2GtS = record { takes = t.V128 ∷ t.V128 ∷ []; leaves = t.V128 ∷ [] }
simd_type simd.I64x2LeS = record { takes = t.V128 ∷ t.V128 ∷ []; leaves = t.V128 ∷ [] }
simd_type simd.I64x2GeS = record { takes = t.V128 ∷ t.V128 ∷ []; leaves = t.V128 ∷ [] }
simd_type simd.F32x4Eq = record { takes = t.V128 ∷ t.V128 ∷ []; leaves = t.V128 ∷ [] }
simd_type simd.F32x4Ne = record { takes = t.V128 ∷ t.V128 ∷ []; leaves = t.V128 ∷ [] }
simd_type simd.F32x4Lt = record { takes = t.V128 ∷ t.V128 ∷ []; leaves = t.V128 ∷ [] }
simd_type simd.F32x4Gt = record { takes = t.V128 ∷ t.V128 ∷ []; leaves = t.V128 ∷ [] }
simd_type simd.F32x4Le = record { takes = t.V128 ∷ t.V128 ∷ []; leaves = t.V128 ∷ [] }
simd_type simd.F32x4Ge = record { takes = t.V128 ∷ t.V128 ∷ []; leaves = t.V128 ∷ [] }
simd_type simd.F64x2Eq = record { takes = t.V128 ∷ t.V128 ∷ []; leaves = t.V128 ∷ [] }
simd_type simd.F64x2Ne = record { takes = t.V128 ∷ t.V128 ∷ []; leaves = t.V128 ∷ [] }
simd_type simd.F64x2Lt = record { takes = t.V128 ∷ t.V128 ∷ []; leaves = t.V128 ∷ [] }
simd_type simd.F64x2Gt = record { takes = t.V128 ∷ t.V128 ∷ []; leaves = t.V128 ∷ [] }
simd_type simd.F64x2Le = record { takes = t.V128 ∷ t.V128 ∷ []; leaves = t.V128 ∷ [] }
simd_type simd.F64x2Ge = record { takes = t.V128 ∷ t.V128 ∷ []; leaves = t.V128 ∷ [] }
simd_type simd.V128Not = record { takes = t.V128 ∷ []; leaves = t.V128 ∷ [] }
simd_type simd.V128And = record { takes = t.V128 ∷ t.V128 ∷ []; leaves = t.V128 ∷ [] }
simd_type simd.V128AndNot = record { takes = t.V128 ∷ t.V128 ∷ []; leaves = t.V128 ∷ [] }
simd_type simd.V128Or = record { takes = t.V128 ∷ t.V128 ∷ []; leaves = t.V128 ∷ [] }
simd_type simd.V128Xor = record { takes = t.V128 ∷ t.V128 ∷ []; leaves = t.V128 ∷ [] }
simd_type simd.V128Bitselect = record { takes = t.V128 ∷ t.V128 ∷ t.V128 ∷ []; leaves = t.V128 ∷ [] }
simd_type simd.V128AnyTrue = record { takes = t.V128 ∷ []; leaves = t.I32 ∷ [] }
simd_type simd.I8x16Abs = record { takes = t.V128 ∷ []; leaves = t.V128 ∷ [] }
simd_type simd.I8x16Neg = record { takes = t.V128 ∷ []; leaves = t.V128 ∷ [] }
simd_type simd.I8x16Popcnt = record { takes = t.V128 ∷ []; leaves = t.V128 ∷ [] }
simd_type simd.I8x16AllTrue = record { takes = t.V128 ∷ []; leaves = t.I32 ∷ [] }
simd_type simd.I8x16Bitmask = record { takes = t.V128 ∷ []; leaves = t.I32 ∷ [] }
simd_type simd.I8x16NarrowI16x8S = record { takes = t.V128 ∷ t.V128 ∷ []; leaves = t.V128 ∷ [] }
simd_type simd.I8x16NarrowI16x8U = record { takes = t.V128 ∷ t.V128 ∷ []; leaves = t.V128 ∷ [] }
simd_type simd.I8x16Shl = record { takes = t.V128 ∷ t.I32 ∷ []; leaves = t.V128 ∷ [] }
simd_type simd.I8x16ShrS = record { takes = t.V128 ∷ t.I32 ∷ []; leaves = t.V128 ∷ [] }
simd_type simd.I8x16ShrU = record { takes = t.V128 ∷ t.I32 ∷ []; leaves = t.V128 ∷ [] }
simd_type simd.I8x16Add = record { takes = t.V128 ∷ t.V128 ∷ []; leaves = t.V128 ∷ [] }
simd_type simd.I8x16AddSatS = record { takes = t.V128 ∷ t.V128 ∷ []; leaves = t.V128 ∷ [] }
simd_type simd.I8x16AddSatU = record { takes = t.V128 ∷ t.V128 ∷ []; leaves = t.V128 ∷ [] }
simd_type simd.I8x16Sub = record { takes = t.V128 ∷ t.V128 ∷ []; leaves = t.V128 ∷ [] }
simd_type simd.I8x16SubSatS = record { takes = t.V128 ∷ t.V128 ∷ []; leaves = t.V128 ∷ [] }
simd_type simd.I8x16SubSatU = record { takes = t.V128 ∷ t.V128 ∷ []; leaves = t.V128 ∷ [] }
simd_type simd.I8x16MinS = record { takes = t.V128 ∷ t.V128 ∷ []; leaves = t.V128 ∷ [] }
simd_type simd.I8x16MinU = record { takes = t.V128 ∷ t.V128 ∷ []; leaves = t.V128 ∷ [] }
simd_type simd.I8x16MaxS = record { takes = t.V128 ∷ t.V128 ∷ []; leaves = t.V128 ∷ [] }
simd_type simd.I8x16MaxU = record { takes = t.V128 ∷ t.V128 ∷ []; leaves = t.V128 ∷ [] }
simd_type simd.I8x16AvgrU = record { takes = t.V128 ∷ t.V128 ∷ []; leaves = t.V128 ∷ [] }
simd_type simd.I16x8ExtAddPairwiseI8x16S = record { takes = t.V128 ∷ []; leaves = t.V128 ∷ [] }
simd_type simd.I16x8ExtAddPairwiseI8x16U = record { takes = t.V128 ∷ []; leaves = t.V128 ∷ [] }
simd_type simd.I16x8Abs = record { takes = t.V128 ∷ []; leaves = t.V128 ∷ [] }
simd_type simd.I16x8Neg = record { takes = t.V128 ∷ []; leaves = t.V128 ∷ [] }
simd_type simd.I16x8Q15MulrSatS = record { takes = t.V128 ∷ t.V128 ∷ []; leaves = t.V128 ∷ [] }
simd_type simd.I16x8AllTrue = record { takes = t.V128 ∷ []; leaves = t.I32 ∷ [] }
simd_type simd.I16x8Bitmask = record { takes = t.V128 ∷ []; leaves = t.I32 ∷ [] }
simd_type simd.I16x8NarrowI32x4S = record { takes = t.V128 ∷ t.V128 ∷ []; leaves = t.V128 ∷ [] }
simd_type simd.I16x8NarrowI32x4U = record { takes = t.V128 ∷ t.V128 ∷ []; leaves = t.V128 ∷ [] }
simd_type simd.I16x8ExtendLowI8x16S = record { takes = t.V128 ∷ []; leaves = t.V128 ∷ [] }
simd_type simd.I16x8ExtendHighI8x16S = record { takes = t.V128 ∷ []; leaves = t.V128 ∷ [] }
simd_type simd.I16x8ExtendLowI8x16U = record { takes = t.V128 ∷ []; leaves = t.V128 ∷ [] }
simd_type simd.I16x8ExtendHighI8x16U = record { takes = t.V128 ∷ []; leaves = t.V128 ∷ [] }
simd_type simd.I16x8Shl = record { takes = t.V128 ∷ t.I32 ∷ []; leaves = t.V128 ∷ [] }
simd_type simd.I16x8ShrS = record { takes = t.V128 ∷ t.I32 ∷ []; leaves = t.V128 ∷ [] }
simd_type simd.I16x8ShrU = record { takes = t.V128 ∷ t.I32 ∷ []; leaves = t.V128 ∷ [] }
simd_type simd.I16x8Add = record { takes = t.V128 ∷ t.V128 ∷ []; leaves = t.V128 ∷ [] }
simd_type simd.I16x8AddSatS = record { takes = t.V128 ∷ t.V128 ∷ []; leaves = t.V128 ∷ [] }
simd_type simd.I16x8AddSatU = record { takes = t.V128 ∷ t.V128 ∷ []; leaves = t.V128 ∷ [] }
simd_type simd.I16x8Sub = record { takes = t.V128 ∷ t.V128 ∷ []; leaves = t.V128 ∷ [] }
simd_type simd.I16x8SubSatS = record { takes = t.V128 ∷ t.V128 ∷ []; leaves = t.V128 ∷ [] }
simd_type simd.I16x8SubSatU = record { takes = t.V128 ∷ t.V128 ∷ []; leaves = t.V128 ∷ [] }
simd_type simd.I16x8Mul = record { takes = t.V128 ∷ t.V128 ∷ []; leaves = t.V128 ∷ [] }
simd_type simd.I16x8MinS = record { takes = t.V128 ∷ t.V128 ∷ []; leaves = t.V128 ∷ [] }
simd_type simd.I16x8MinU = record { takes = t.V128 ∷ t.V128 ∷ []; leaves = t.V128 ∷ [] }
simd_type simd.I16x8MaxS = record { takes = t.V128 ∷ t.V128 ∷ []; leaves = t.V128 ∷ [] }
simd_type simd.I16x8MaxU = record { takes = t.V128 ∷ t.V128 ∷ []; leaves = t.V128 ∷ [] }
simd_type simd.I16x8AvgrU = record { takes = t.V128 ∷ t.V128 ∷ []; leaves = t.V128 ∷ [] }
simd_type simd.I16x8ExtMulLowI8x16S = record { takes = t.V128 ∷ t.V128 ∷ []; leaves = t.V128 ∷ [] }
simd_type simd.I16x8ExtMulHighI8x16S = record { takes = t.V128 ∷ t.V128 ∷ []; leaves = t.V128 ∷ [] }
simd_type simd.I16x8ExtMulLowI8x16U = record { takes = t.V128 ∷ t.V128 ∷ []; leaves = t.V128 ∷ [] }
simd_type simd.I16x8ExtMulHighI8x16U = record { takes = t.V128 ∷ t.V128 ∷ []; leaves = t.V128 ∷ [] }
simd_type simd.I32x4ExtAddPairwiseI16x8S = record { takes = t.V128 ∷ []; leaves = t.V128 ∷ [] }
simd_type simd.I32x4ExtAddPairwiseI16x8U = record { takes = t.V128 ∷ []; leaves = t.V128 ∷ [] }
simd_type simd.I32x4Abs = record { takes = t.V128 ∷ []; leaves = t.V128 ∷ [] }
simd_type simd.I32x4Neg = record { takes = t.V128 ∷ []; leaves = t.V128 ∷ [] }
simd_type simd.I32x4AllTrue = record { takes = t.V128 ∷ []; leaves = t.I32 ∷ [] }
simd_type simd.I32x4Bitmask = record { takes = t.V128 ∷ []; leaves = t.I32 ∷ [] }
simd_type simd.I32x4ExtendLowI16x8S = record { takes = t.V128 ∷ []; leaves = t.V128 ∷ [] }
simd_type simd.I32x4ExtendHighI16x8S = record { takes = t.V128 ∷ []; leaves = t.V128 ∷ [] }
simd_type simd.I32x4ExtendLowI16x8U = record { takes = t.V128 ∷ []; leaves = t.V128 ∷ [] }
simd_type simd.I32x4ExtendHighI16x8U = record { takes = t.V128 ∷ []; leaves = t.V128 ∷ [] }
simd_type simd.I32x4Shl = record { takes = t.V128 ∷ t.I32 ∷ []; leaves = t.V128 ∷ [] }
simd_type simd.I32x4ShrS = record { takes = t.V128 ∷ t.I32 ∷ []; leaves = t.V128 ∷ [] }
simd_type simd.I32x4ShrU = record { takes = t.V128 ∷ t.I32 ∷ []; leaves = t.V128 ∷ [] }
simd_type simd.I32x4Add = record { takes = t.V128 ∷ t.V128 ∷ []; leaves = t.V128 ∷ [] }
simd_type simd.I32x4Sub = record { takes = t.V128 ∷ t.V128 ∷ []; leaves = t.V128 ∷ [] }
simd_type simd.I32x4Mul = record { takes = t.V128 ∷ t.V128 ∷ []; leaves = t.V128 ∷ [] }
simd_type simd.I32x4MinS = record { takes = t.V128 ∷ t.V128 ∷ []; leaves = t.V128 ∷ [] }
simd_type simd.I32x4MinU = record { takes = t.V128 ∷ t.V128 ∷ []; leaves = t.V128 ∷ [] }
simd_type simd.I32x4MaxS = record { takes = t.V128 ∷ t.V128 ∷ []; leaves = t.V128 ∷ [] }
simd_type simd.I32x4MaxU = record { takes = t.V128 ∷ t.V128 ∷ []; leaves = t.V128 ∷ [] }
simd_type simd.I32x4DotI16x8S = record { takes = t.V128 ∷ t.V128 ∷ []; leaves = t.V128 ∷ [] }
simd_type simd.I32x4ExtMulLowI16x8S = record { takes = t.V128 ∷ t.V128 ∷ []; leaves = t.V128 ∷ [] }
simd_type simd.I32x4ExtMulHighI16x8S = record { takes = t.V128 ∷ t.V128 ∷ []; leaves = t.V128 ∷ [] }
simd_type simd.I32x4ExtMulLowI16x8U = record { takes = t.V128 ∷ t.V128 ∷ []; leaves = t.V128 ∷ [] }
simd_type simd.I32x4ExtMulHighI16x8U = record { takes = t.V128 ∷ t.V128 ∷ []; leaves = t.V128 ∷ [] }
simd_type simd.I64x2Abs = record { takes = t.V128 ∷ []; leaves = t.V128 ∷ [] }
simd_type simd.I64x2Neg = record { takes = t.V128 ∷ []; leaves = t.V128 ∷ [] }
simd_type simd.I64x2AllTrue = record { takes = t.V128 ∷ []; leaves = t.I32 ∷ [] }
simd_type simd.I64x2Bitmask = record { takes = t.V128 ∷ []; leaves = t.I32 ∷ [] }
simd_type simd.I64x2ExtendLowI32x4S = record { takes = t.V128 ∷ []; leaves = t.V128 ∷ [] }
simd_type simd.I64x2ExtendHighI32x4S = record { takes = t.V128 ∷ []; leaves = t.V128 ∷ [] }
simd_type simd.I64x2ExtendLowI32x4U = record { takes = t.V128 ∷ []; leaves = t.V128 ∷ [] }
simd_type simd.I64x2ExtendHighI32x4U = record { takes = t.V128 ∷ []; leaves = t.V128 ∷ [] }
simd_type simd.I64x2Shl = record { takes = t.V128 ∷ t.I32 ∷ []; leaves = t.V128 ∷ [] }
simd_type simd.I64x2ShrS = record { takes = t.V128 ∷ t.I32 ∷ []; leaves = t.V128 ∷ [] }
simd_type simd.I64x2ShrU = record { takes = t.V128 ∷ t.I32 ∷ []; leaves = t.V128 ∷ [] }
simd_type simd.I64x2Add = record { takes = t.V128 ∷ t.V128 ∷ []; leaves = t.V128 ∷ [] }
simd_type simd.I64x2Sub = record { takes = t.V128 ∷ t.V128 ∷ []; leaves = t.V128 ∷ [] }
simd_type simd.I64x2Mul = record { takes = t.V128 ∷ t.V128 ∷ []; leaves = t.V128 ∷ [] }
simd_type simd.I64x2ExtMulLowI32x4S = record { takes = t.V128 ∷ t.V128 ∷ []; leaves = t.V128 ∷ [] }
simd_type simd.I64x2ExtMulHighI32x4S = record { takes = t.V128 ∷ t.V128 ∷ []; leaves = t.V128 ∷ [] }
simd_type simd.I64x2ExtMulLowI32x4U = record { takes = t.V128 ∷ t.V128 ∷ []; leaves = t.V128 ∷ [] }
simd_type simd.I64x2ExtMulHighI32x4U = record { takes = t.V128 ∷ t.V128 ∷ []; leaves = t.V128 ∷ [] }
simd_type simd.F32x4Ceil = record { takes = t.V128 ∷ []; leaves = t.V128 ∷ [] }
simd_type simd.F32x4Floor = record { takes = t.V128 ∷ []; leaves = t.V128 ∷ [] }
simd_type simd.F32x4Trunc = record { takes = t.V128 ∷ []; leaves = t.V128 ∷ [] }
simd_type simd.F32x4Nearest = record { takes = t.V128 ∷ []; leaves = t.V128 ∷ [] }
simd_type simd.F32x4Abs = record { takes = t.V128 ∷ []; leaves = t.V128 ∷ [] }
simd_type simd.F32x4Neg = record { takes = t.V128 ∷ []; leaves = t.V128 ∷ [] }
simd_type simd.F32x4Sqrt = record { takes = t.V128 ∷ []; leaves = t.V128 ∷ [] }
simd_type simd.F32x4Add = record { takes = t.V128 ∷ t.V128 ∷ []; leaves = t.V128 ∷ [] }
simd_type simd.F32x4Sub = record { takes = t.V128 ∷ t.V128 ∷ []; leaves = t.V128 ∷ [] }
simd_type simd.F32x4Mul = record { takes = t.V128 ∷ t.V128 ∷ []; leaves = t.V128 ∷ [] }
simd_type simd.F32x4Div = record { takes = t.V128 ∷ t.V128 ∷ []; leaves = t.V128 ∷ [] }
simd_type simd.F32x4Min = record { takes = t.V128 ∷ t.V128 ∷ []; leaves = t.V128 ∷ [] }
simd_type simd.F32x4Max = record { takes = t.V128 ∷ t.V128 ∷ []; leaves = t.V128 ∷ [] }
simd_type simd.F32x4PMin = record { takes = t.V128 ∷ t.V128 ∷ []; leaves = t.V128 ∷ [] }
simd_type simd.F32x4PMax = record { takes = t.V128 ∷ t.V128 ∷ []; leaves = t.V128 ∷ [] }
simd_type simd.F64x2Ceil = record { takes = t.V128 ∷ []; leaves = t.V128 ∷ [] }
simd_type simd.F64x2Floor = record { takes = t.V128 ∷ []; leaves = t.V128 ∷ [] }
simd_type simd.F64x2Trunc = record { takes = t.V128 ∷ []; leaves = t.V128 ∷ [] }
simd_type simd.F64x2Nearest = record { takes = t.V128 ∷ []; leaves = t.V128 ∷ [] }
simd_type simd.F64x2Abs = record { takes = t.V128 ∷ []; leaves = t.V128 ∷ [] }
simd_type simd.F64x2Neg = record { takes = t.V128 ∷ []; leaves = t.V128 ∷ [] }
simd_type simd.F64x2Sqrt = record { takes = t.V128 ∷ []; leaves = t.V128 ∷ [] }
simd_type simd.F64x2Add = record { takes = t.V128 ∷ t.V128 ∷ []; leaves = t.V128 ∷ [] }
simd_type simd.F64x2Sub = record { takes = t.V128 ∷ t.V128 ∷ []; leaves = t.V128 ∷ [] }
simd_type simd.F64x2Mul = record { takes = t.V128 ∷ t.V128 ∷ []; leaves = t.V128 ∷ [] }
simd_type simd.F64x2Div = record { takes = t.V128 ∷ t.V128 ∷ []; leaves = t.V128 ∷ [] }
simd_type simd.F64x2Min = record { takes = t.V128 ∷ t.V128 ∷ []; leaves = t.V128 ∷ [] }
simd_type simd.F64x2Max = record { takes = t.V128 ∷ t.V128 ∷ []; leaves = t.V128 ∷ [] }
simd_type simd.F64x2PMin = record { takes = t.V128 ∷ t.V128 ∷ []; leaves = t.V128 ∷ [] }
simd_type simd.F64x2PMax = record { takes = t.V128 ∷ t.V128 ∷ []; leaves = t.V128 ∷ [] }
simd_type simd.I32x4TruncSatF32x4S = record { takes = t.V128 ∷ []; leaves = t.V128 ∷ [] }
simd_type simd.I32x4TruncSatF32x4U = record { takes = t.V128 ∷ []; leaves = t.V128 ∷ [] }
simd_type simd.F32x4ConvertI32x4S = record { takes = t.V128 ∷ []; leaves = t.V128 ∷ [] }
simd_type simd.F32x4ConvertI32x4U = record { takes = t.V128 ∷ []; leaves = t.V128 ∷ [] }
simd_type simd.I32x4TruncSatF64x2SZero = record { takes = t.V128 ∷ []; leaves = t.V128 ∷ [] }
simd_type simd.I32x4TruncSatF64x2UZero = record { takes = t.V128 ∷ []; leaves = t.V128 ∷ [] }
simd_type simd.F64x2ConvertLowI32x4S = record { takes = t.V128 ∷ []; leaves = t.V128 ∷ [] }
simd_type simd.F64x2ConvertLowI32x4U = record { takes = t.V128 ∷ []; leaves = t.V128 ∷ [] }
simd_type simd.F32x4DemoteF64x2Zero = record { takes = t.V128 ∷ []; leaves = t.V128 ∷ [] }
simd_type simd.F64x2PromoteLowF32x4 = record { takes = t.V128 ∷ []; leaves = t.V128 ∷ [] }
simd_type simd.I8x16RelaxedSwizzle = record { takes = t.V128 ∷ t.V128 ∷ []; leaves = t.V128 ∷ [] }
simd_type simd.I32x4RelaxedTruncF32x4S = record { takes = t.V128 ∷ []; leaves = t.V128 ∷ [] }
simd_type simd.I32x4RelaxedTruncF32x4U = record { takes = t.V128 ∷ []; leaves = t.V128 ∷ [] }
simd_type simd.I32x4RelaxedTruncF64x2SZero = record { takes = t.V128 ∷ []; leaves = t.V128 ∷ [] }
simd_type simd.I32x4RelaxedTruncF64x2UZero = record { takes = t.V128 ∷ []; leaves = t.V128 ∷ [] }
simd_type simd.F32x4RelaxedMadd = record { takes = t.V128 ∷ t.V128 ∷ t.V128 ∷ []; leaves = t.V128 ∷ [] }
simd_type simd.F32x4RelaxedNmadd = record { takes = t.V128 ∷ t.V128 ∷ t.V128 ∷ []; leaves = t.V128 ∷ [] }
simd_type simd.F64x2RelaxedMadd = record { takes = t.V128 ∷ t.V128 ∷ t.V128 ∷ []; leaves = t.V128 ∷ [] }
simd_type simd.F64x2RelaxedNmadd = record { takes = t.V128 ∷ t.V128 ∷ t.V128 ∷ []; leaves = t.V128 ∷ [] }
simd_type simd.I8x16RelaxedLaneselect = record { takes = t.V128 ∷ t.V128 ∷ t.V128 ∷ []; leaves = t.V128 ∷ [] }
simd_type simd.I16x8RelaxedLaneselect = record { takes = t.V128 ∷ t.V128 ∷ t.V128 ∷ []; leaves = t.V128 ∷ [] }
simd_type simd.I32x4RelaxedLaneselect = record { takes = t.V128 ∷ t.V128 ∷ t.V128 ∷ []; leaves = t.V128 ∷ [] }
simd_type simd.I64x2RelaxedLaneselect = record { takes = t.V128 ∷ t.V128 ∷ t.V128 ∷ []; leaves = t.V128 ∷ [] }
simd_type simd.F32x4RelaxedMin = record { takes = t.V128 ∷ t.V128 ∷ []; leaves = t.V128 ∷ [] }
simd_type simd.F32x4RelaxedMax = record { takes = t.V128 ∷ t.V128 ∷ []; leaves = t.V128 ∷ [] }
simd_type simd.F64x2RelaxedMin = record { takes = t.V128 ∷ t.V128 ∷ []; leaves = t.V128 ∷ [] }
simd_type simd.F64x2RelaxedMax = record { takes = t.V128 ∷ t.V128 ∷ []; leaves = t.V128 ∷ [] }
simd_type simd.I16x8RelaxedQ15mulrS = record { takes = t.V128 ∷ t.V128 ∷ []; leaves = t.V128 ∷ [] }
simd_type simd.I16x8RelaxedDotI8x16I7x16S = record { takes = t.V128 ∷ t.V128 ∷ []; leaves = t.V128 ∷ [] }
simd_type simd.I32x4RelaxedDotI8x16I7x16AddS = record { takes = t.V128 ∷ t.V128 ∷ t.V128 ∷ []; leaves = t.V128 ∷ [] }
