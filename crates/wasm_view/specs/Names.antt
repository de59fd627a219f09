-- Written by tools/lists.py from tools/operators.tsv.
-- Specification: Appendix, Index of Instructions.
use Rattle.std.specs.Prelude.{◌==◌, ℕ, List, [], codes, if◌then◌else◌}

-- The variant's name by the operator's number: opcode, or prefix byte * 0x10000 + subopcode. Empty if this function lacks it.
abbrev pub atomic_names_2 : ℕ → List ℕ
atomic_names_2 number =
    if number == 0xfe006c then codes "ArrayAtomicRmwSub" else (
    if number == 0xfe006d then codes "ArrayAtomicRmwAnd" else (
    if number == 0xfe006e then codes "ArrayAtomicRmwOr" else (
    if number == 0xfe006f then codes "ArrayAtomicRmwXor" else (
    if number == 0xfe0070 then codes "ArrayAtomicRmwXchg" else (
    if number == 0xfe0071 then codes "ArrayAtomicRmwCmpxchg" else (
    if number == 0xfe0072 then codes "RefI31Shared" else (
    if number == 0xfe0004 then codes "Pause" else ([]))))))))

abbrev pub atomic_names_1 : ℕ → List ℕ
atomic_names_1 number =
    if number == 0xfe003c then codes "I32AtomicRmw8XorU" else (
    if number == 0xfe003d then codes "I32AtomicRmw16XorU" else (
    if number == 0xfe003e then codes "I64AtomicRmw8XorU" else (
    if number == 0xfe003f then codes "I64AtomicRmw16XorU" else (
    if number == 0xfe0040 then codes "I64AtomicRmw32XorU" else (
    if number == 0xfe0041 then codes "I32AtomicRmwXchg" else (
    if number == 0xfe0042 then codes "I64AtomicRmwXchg" else (
    if number == 0xfe0043 then codes "I32AtomicRmw8XchgU" else (
    if number == 0xfe0044 then codes "I32AtomicRmw16XchgU" else (
    if number == 0xfe0045 then codes "I64AtomicRmw8XchgU" else (
    if number == 0xfe0046 then codes "I64AtomicRmw16XchgU" else (
    if number == 0xfe0047 then codes "I64AtomicRmw32XchgU" else (
    if number == 0xfe0048 then codes "I32AtomicRmwCmpxchg" else (
    if number == 0xfe0049 then codes "I64AtomicRmwCmpxchg" else (
    if number == 0xfe004a then codes "I32AtomicRmw8CmpxchgU" else (
    if number == 0xfe004b then codes "I32AtomicRmw16CmpxchgU" else (
    if number == 0xfe004c then codes "I64AtomicRmw8CmpxchgU" else (
    if number == 0xfe004d then codes "I64AtomicRmw16CmpxchgU" else (
    if number == 0xfe004e then codes "I64AtomicRmw32CmpxchgU" else (
    if number == 0xfe004f then codes "GlobalAtomicGet" else (
    if number == 0xfe0050 then codes "GlobalAtomicSet" else (
    if number == 0xfe0051 then codes "GlobalAtomicRmwAdd" else (
    if number == 0xfe0052 then codes "GlobalAtomicRmwSub" else (
    if number == 0xfe0053 then codes "GlobalAtomicRmwAnd" else (
    if number == 0xfe0054 then codes "GlobalAtomicRmwOr" else (
    if number == 0xfe0055 then codes "GlobalAtomicRmwXor" else (
    if number == 0xfe0056 then codes "GlobalAtomicRmwXchg" else (
    if number == 0xfe0057 then codes "GlobalAtomicRmwCmpxchg" else (
    if number == 0xfe0058 then codes "TableAtomicGet" else (
    if number == 0xfe0059 then codes "TableAtomicSet" else (
    if number == 0xfe005a then codes "TableAtomicRmwXchg" else (
    if number == 0xfe005b then codes "TableAtomicRmwCmpxchg" else (
    if number == 0xfe005c then codes "StructAtomicGet" else (
    if number == 0xfe005d then codes "StructAtomicGetS" else (
    if number == 0xfe005e then codes "StructAtomicGetU" else (
    if number == 0xfe005f then codes "StructAtomicSet" else (
    if number == 0xfe0060 then codes "StructAtomicRmwAdd" else (
    if number == 0xfe0061 then codes "StructAtomicRmwSub" else (
    if number == 0xfe0062 then codes "StructAtomicRmwAnd" else (
    if number == 0xfe0063 then codes "StructAtomicRmwOr" else (
    if number == 0xfe0064 then codes "StructAtomicRmwXor" else (
    if number == 0xfe0065 then codes "StructAtomicRmwXchg" else (
    if number == 0xfe0066 then codes "StructAtomicRmwCmpxchg" else (
    if number == 0xfe0067 then codes "ArrayAtomicGet" else (
    if number == 0xfe0068 then codes "ArrayAtomicGetS" else (
    if number == 0xfe0069 then codes "ArrayAtomicGetU" else (
    if number == 0xfe006a then codes "ArrayAtomicSet" else (
    if number == 0xfe006b then codes "ArrayAtomicRmwAdd" else (atomic_names_2 number))))))))))))))))))))))))))))))))))))))))))))))))

abbrev pub atomic_names_0 : ℕ → List ℕ
atomic_names_0 number =
    if number == 0xfe0000 then codes "MemoryAtomicNotify" else (
    if number == 0xfe0001 then codes "MemoryAtomicWait32" else (
    if number == 0xfe0002 then codes "MemoryAtomicWait64" else (
    if number == 0xfe0003 then codes "AtomicFence" else (
    if number == 0xfe0010 then codes "I32AtomicLoad" else (
    if number == 0xfe0011 then codes "I64AtomicLoad" else (
    if number == 0xfe0012 then codes "I32AtomicLoad8U" else (
    if number == 0xfe0013 then codes "I32AtomicLoad16U" else (
    if number == 0xfe0014 then codes "I64AtomicLoad8U" else (
    if number == 0xfe0015 then codes "I64AtomicLoad16U" else (
    if number == 0xfe0016 then codes "I64AtomicLoad32U" else (
    if number == 0xfe0017 then codes "I32AtomicStore" else (
    if number == 0xfe0018 then codes "I64AtomicStore" else (
    if number == 0xfe0019 then codes "I32AtomicStore8" else (
    if number == 0xfe001a then codes "I32AtomicStore16" else (
    if number == 0xfe001b then codes "I64AtomicStore8" else (
    if number == 0xfe001c then codes "I64AtomicStore16" else (
    if number == 0xfe001d then codes "I64AtomicStore32" else (
    if number == 0xfe001e then codes "I32AtomicRmwAdd" else (
    if number == 0xfe001f then codes "I64AtomicRmwAdd" else (
    if number == 0xfe0020 then codes "I32AtomicRmw8AddU" else (
    if number == 0xfe0021 then codes "I32AtomicRmw16AddU" else (
    if number == 0xfe0022 then codes "I64AtomicRmw8AddU" else (
    if number == 0xfe0023 then codes "I64AtomicRmw16AddU" else (
    if number == 0xfe0024 then codes "I64AtomicRmw32AddU" else (
    if number == 0xfe0025 then codes "I32AtomicRmwSub" else (
    if number == 0xfe0026 then codes "I64AtomicRmwSub" else (
    if number == 0xfe0027 then codes "I32AtomicRmw8SubU" else (
    if number == 0xfe0028 then codes "I32AtomicRmw16SubU" else (
    if number == 0xfe0029 then codes "I64AtomicRmw8SubU" else (
    if number == 0xfe002a then codes "I64AtomicRmw16SubU" else (
    if number == 0xfe002b then codes "I64AtomicRmw32SubU" else (
    if number == 0xfe002c then codes "I32AtomicRmwAnd" else (
    if number == 0xfe002d then codes "I64AtomicRmwAnd" else (
    if number == 0xfe002e then codes "I32AtomicRmw8AndU" else (
    if number == 0xfe002f then codes "I32AtomicRmw16AndU" else (
    if number == 0xfe0030 then codes "I64AtomicRmw8AndU" else (
    if number == 0xfe0031 then codes "I64AtomicRmw16AndU" else (
    if number == 0xfe0032 then codes "I64AtomicRmw32AndU" else (
    if number == 0xfe0033 then codes "I32AtomicRmwOr" else (
    if number == 0xfe0034 then codes "I64AtomicRmwOr" else (
    if number == 0xfe0035 then codes "I32AtomicRmw8OrU" else (
    if number == 0xfe0036 then codes "I32AtomicRmw16OrU" else (
    if number == 0xfe0037 then codes "I64AtomicRmw8OrU" else (
    if number == 0xfe0038 then codes "I64AtomicRmw16OrU" else (
    if number == 0xfe0039 then codes "I64AtomicRmw32OrU" else (
    if number == 0xfe003a then codes "I32AtomicRmwXor" else (
    if number == 0xfe003b then codes "I64AtomicRmwXor" else (atomic_names_1 number))))))))))))))))))))))))))))))))))))))))))))))))

abbrev pub simd_names_5 : ℕ → List ℕ
simd_names_5 number =
    if number == 0xfd0104 then codes "I32x4RelaxedTruncF64x2UZero" else (
    if number == 0xfd0105 then codes "F32x4RelaxedMadd" else (
    if number == 0xfd0106 then codes "F32x4RelaxedNmadd" else (
    if number == 0xfd0107 then codes "F64x2RelaxedMadd" else (
    if number == 0xfd0108 then codes "F64x2RelaxedNmadd" else (
    if number == 0xfd0109 then codes "I8x16RelaxedLaneselect" else (
    if number == 0xfd010a then codes "I16x8RelaxedLaneselect" else (
    if number == 0xfd010b then codes "I32x4RelaxedLaneselect" else (
    if number == 0xfd010c then codes "I64x2RelaxedLaneselect" else (
    if number == 0xfd010d then codes "F32x4RelaxedMin" else (
    if number == 0xfd010e then codes "F32x4RelaxedMax" else (
    if number == 0xfd010f then codes "F64x2RelaxedMin" else (
    if number == 0xfd0110 then codes "F64x2RelaxedMax" else (
    if number == 0xfd0111 then codes "I16x8RelaxedQ15mulrS" else (
    if number == 0xfd0112 then codes "I16x8RelaxedDotI8x16I7x16S" else (
    if number == 0xfd0113 then codes "I32x4RelaxedDotI8x16I7x16AddS" else (atomic_names_0 number))))))))))))))))

abbrev pub simd_names_4 : ℕ → List ℕ
simd_names_4 number =
    if number == 0xfd00dc then codes "I64x2ExtMulLowI32x4S" else (
    if number == 0xfd00dd then codes "I64x2ExtMulHighI32x4S" else (
    if number == 0xfd00de then codes "I64x2ExtMulLowI32x4U" else (
    if number == 0xfd00df then codes "I64x2ExtMulHighI32x4U" else (
    if number == 0xfd0067 then codes "F32x4Ceil" else (
    if number == 0xfd0068 then codes "F32x4Floor" else (
    if number == 0xfd0069 then codes "F32x4Trunc" else (
    if number == 0xfd006a then codes "F32x4Nearest" else (
    if number == 0xfd00e0 then codes "F32x4Abs" else (
    if number == 0xfd00e1 then codes "F32x4Neg" else (
    if number == 0xfd00e3 then codes "F32x4Sqrt" else (
    if number == 0xfd00e4 then codes "F32x4Add" else (
    if number == 0xfd00e5 then codes "F32x4Sub" else (
    if number == 0xfd00e6 then codes "F32x4Mul" else (
    if number == 0xfd00e7 then codes "F32x4Div" else (
    if number == 0xfd00e8 then codes "F32x4Min" else (
    if number == 0xfd00e9 then codes "F32x4Max" else (
    if number == 0xfd00ea then codes "F32x4PMin" else (
    if number == 0xfd00eb then codes "F32x4PMax" else (
    if number == 0xfd0074 then codes "F64x2Ceil" else (
    if number == 0xfd0075 then codes "F64x2Floor" else (
    if number == 0xfd007a then codes "F64x2Trunc" else (
    if number == 0xfd0094 then codes "F64x2Nearest" else (
    if number == 0xfd00ec then codes "F64x2Abs" else (
    if number == 0xfd00ed then codes "F64x2Neg" else (
    if number == 0xfd00ef then codes "F64x2Sqrt" else (
    if number == 0xfd00f0 then codes "F64x2Add" else (
    if number == 0xfd00f1 then codes "F64x2Sub" else (
    if number == 0xfd00f2 then codes "F64x2Mul" else (
    if number == 0xfd00f3 then codes "F64x2Div" else (
    if number == 0xfd00f4 then codes "F64x2Min" else (
    if number == 0xfd00f5 then codes "F64x2Max" else (
    if number == 0xfd00f6 then codes "F64x2PMin" else (
    if number == 0xfd00f7 then codes "F64x2PMax" else (
    if number == 0xfd00f8 then codes "I32x4TruncSatF32x4S" else (
    if number == 0xfd00f9 then codes "I32x4TruncSatF32x4U" else (
    if number == 0xfd00fa then codes "F32x4ConvertI32x4S" else (
    if number == 0xfd00fb then codes "F32x4ConvertI32x4U" else (
    if number == 0xfd00fc then codes "I32x4TruncSatF64x2SZero" else (
    if number == 0xfd00fd then codes "I32x4TruncSatF64x2UZero" else (
    if number == 0xfd00fe then codes "F64x2ConvertLowI32x4S" else (
    if number == 0xfd00ff then codes "F64x2ConvertLowI32x4U" else (
    if number == 0xfd005e then codes "F32x4DemoteF64x2Zero" else (
    if number == 0xfd005f then codes "F64x2PromoteLowF32x4" else (
    if number == 0xfd0100 then codes "I8x16RelaxedSwizzle" else (
    if number == 0xfd0101 then codes "I32x4RelaxedTruncF32x4S" else (
    if number == 0xfd0102 then codes "I32x4RelaxedTruncF32x4U" else (
    if number == 0xfd0103 then codes "I32x4RelaxedTruncF64x2SZero" else (simd_names_5 number))))))))))))))))))))))))))))))))))))))))))))))))

abbrev pub simd_names_3 : ℕ → List ℕ
simd_names_3 number =
    if number == 0xfd0096 then codes "I16x8MinS" else (
    if number == 0xfd0097 then codes "I16x8MinU" else (
    if number == 0xfd0098 then codes "I16x8MaxS" else (
    if number == 0xfd0099 then codes "I16x8MaxU" else (
    if number == 0xfd009b then codes "I16x8AvgrU" else (
    if number == 0xfd009c then codes "I16x8ExtMulLowI8x16S" else (
    if number == 0xfd009d then codes "I16x8ExtMulHighI8x16S" else (
    if number == 0xfd009e then codes "I16x8ExtMulLowI8x16U" else (
    if number == 0xfd009f then codes "I16x8ExtMulHighI8x16U" else (
    if number == 0xfd007e then codes "I32x4ExtAddPairwiseI16x8S" else (
    if number == 0xfd007f then codes "I32x4ExtAddPairwiseI16x8U" else (
    if number == 0xfd00a0 then codes "I32x4Abs" else (
    if number == 0xfd00a1 then codes "I32x4Neg" else (
    if number == 0xfd00a3 then codes "I32x4AllTrue" else (
    if number == 0xfd00a4 then codes "I32x4Bitmask" else (
    if number == 0xfd00a7 then codes "I32x4ExtendLowI16x8S" else (
    if number == 0xfd00a8 then codes "I32x4ExtendHighI16x8S" else (
    if number == 0xfd00a9 then codes "I32x4ExtendLowI16x8U" else (
    if number == 0xfd00aa then codes "I32x4ExtendHighI16x8U" else (
    if number == 0xfd00ab then codes "I32x4Shl" else (
    if number == 0xfd00ac then codes "I32x4ShrS" else (
    if number == 0xfd00ad then codes "I32x4ShrU" else (
    if number == 0xfd00ae then codes "I32x4Add" else (
    if number == 0xfd00b1 then codes "I32x4Sub" else (
    if number == 0xfd00b5 then codes "I32x4Mul" else (
    if number == 0xfd00b6 then codes "I32x4MinS" else (
    if number == 0xfd00b7 then codes "I32x4MinU" else (
    if number == 0xfd00b8 then codes "I32x4MaxS" else (
    if number == 0xfd00b9 then codes "I32x4MaxU" else (
    if number == 0xfd00ba then codes "I32x4DotI16x8S" else (
    if number == 0xfd00bc then codes "I32x4ExtMulLowI16x8S" else (
    if number == 0xfd00bd then codes "I32x4ExtMulHighI16x8S" else (
    if number == 0xfd00be then codes "I32x4ExtMulLowI16x8U" else (
    if number == 0xfd00bf then codes "I32x4ExtMulHighI16x8U" else (
    if number == 0xfd00c0 then codes "I64x2Abs" else (
    if number == 0xfd00c1 then codes "I64x2Neg" else (
    if number == 0xfd00c3 then codes "I64x2AllTrue" else (
    if number == 0xfd00c4 then codes "I64x2Bitmask" else (
    if number == 0xfd00c7 then codes "I64x2ExtendLowI32x4S" else (
    if number == 0xfd00c8 then codes "I64x2ExtendHighI32x4S" else (
    if number == 0xfd00c9 then codes "I64x2ExtendLowI32x4U" else (
    if number == 0xfd00ca then codes "I64x2ExtendHighI32x4U" else (
    if number == 0xfd00cb then codes "I64x2Shl" else (
    if number == 0xfd00cc then codes "I64x2ShrS" else (
    if number == 0xfd00cd then codes "I64x2ShrU" else (
    if number == 0xfd00ce then codes "I64x2Add" else (
    if number == 0xfd00d1 then codes "I64x2Sub" else (
    if number == 0xfd00d5 then codes "I64x2Mul" else (simd_names_4 number))))))))))))))))))))))))))))))))))))))))))))))))

abbrev pub simd_names_2 : ℕ → List ℕ
simd_names_2 number =
    if number == 0xfd0050 then codes "V128Or" else (
    if number == 0xfd0051 then codes "V128Xor" else (
    if number == 0xfd0052 then codes "V128Bitselect" else (
    if number == 0xfd0053 then codes "V128AnyTrue" else (
    if number == 0xfd0060 then codes "I8x16Abs" else (
    if number == 0xfd0061 then codes "I8x16Neg" else (
    if number == 0xfd0062 then codes "I8x16Popcnt" else (
    if number == 0xfd0063 then codes "I8x16AllTrue" else (
    if number == 0xfd0064 then codes "I8x16Bitmask" else (
    if number == 0xfd0065 then codes "I8x16NarrowI16x8S" else (
    if number == 0xfd0066 then codes "I8x16NarrowI16x8U" else (
    if number == 0xfd006b then codes "I8x16Shl" else (
    if number == 0xfd006c then codes "I8x16ShrS" else (
    if number == 0xfd006d then codes "I8x16ShrU" else (
    if number == 0xfd006e then codes "I8x16Add" else (
    if number == 0xfd006f then codes "I8x16AddSatS" else (
    if number == 0xfd0070 then codes "I8x16AddSatU" else (
    if number == 0xfd0071 then codes "I8x16Sub" else (
    if number == 0xfd0072 then codes "I8x16SubSatS" else (
    if number == 0xfd0073 then codes "I8x16SubSatU" else (
    if number == 0xfd0076 then codes "I8x16MinS" else (
    if number == 0xfd0077 then codes "I8x16MinU" else (
    if number == 0xfd0078 then codes "I8x16MaxS" else (
    if number == 0xfd0079 then codes "I8x16MaxU" else (
    if number == 0xfd007b then codes "I8x16AvgrU" else (
    if number == 0xfd007c then codes "I16x8ExtAddPairwiseI8x16S" else (
    if number == 0xfd007d then codes "I16x8ExtAddPairwiseI8x16U" else (
    if number == 0xfd0080 then codes "I16x8Abs" else (
    if number == 0xfd0081 then codes "I16x8Neg" else (
    if number == 0xfd0082 then codes "I16x8Q15MulrSatS" else (
    if number == 0xfd0083 then codes "I16x8AllTrue" else (
    if number == 0xfd0084 then codes "I16x8Bitmask" else (
    if number == 0xfd0085 then codes "I16x8NarrowI32x4S" else (
    if number == 0xfd0086 then codes "I16x8NarrowI32x4U" else (
    if number == 0xfd0087 then codes "I16x8ExtendLowI8x16S" else (
    if number == 0xfd0088 then codes "I16x8ExtendHighI8x16S" else (
    if number == 0xfd0089 then codes "I16x8ExtendLowI8x16U" else (
    if number == 0xfd008a then codes "I16x8ExtendHighI8x16U" else (
    if number == 0xfd008b then codes "I16x8Shl" else (
    if number == 0xfd008c then codes "I16x8ShrS" else (
    if number == 0xfd008d then codes "I16x8ShrU" else (
    if number == 0xfd008e then codes "I16x8Add" else (
    if number == 0xfd008f then codes "I16x8AddSatS" else (
    if number == 0xfd0090 then codes "I16x8AddSatU" else (
    if number == 0xfd0091 then codes "I16x8Sub" else (
    if number == 0xfd0092 then codes "I16x8SubSatS" else (
    if number == 0xfd0093 then codes "I16x8SubSatU" else (
    if number == 0xfd0095 then codes "I16x8Mul" else (simd_names_3 number))))))))))))))))))))))))))))))))))))))))))))))))

abbrev pub simd_names_1 : ℕ → List ℕ
simd_names_1 number =
    if number == 0xfd0026 then codes "I8x16LtU" else (
    if number == 0xfd0027 then codes "I8x16GtS" else (
    if number == 0xfd0028 then codes "I8x16GtU" else (
    if number == 0xfd0029 then codes "I8x16LeS" else (
    if number == 0xfd002a then codes "I8x16LeU" else (
    if number == 0xfd002b then codes "I8x16GeS" else (
    if number == 0xfd002c then codes "I8x16GeU" else (
    if number == 0xfd002d then codes "I16x8Eq" else (
    if number == 0xfd002e then codes "I16x8Ne" else (
    if number == 0xfd002f then codes "I16x8LtS" else (
    if number == 0xfd0030 then codes "I16x8LtU" else (
    if number == 0xfd0031 then codes "I16x8GtS" else (
    if number == 0xfd0032 then codes "I16x8GtU" else (
    if number == 0xfd0033 then codes "I16x8LeS" else (
    if number == 0xfd0034 then codes "I16x8LeU" else (
    if number == 0xfd0035 then codes "I16x8GeS" else (
    if number == 0xfd0036 then codes "I16x8GeU" else (
    if number == 0xfd0037 then codes "I32x4Eq" else (
    if number == 0xfd0038 then codes "I32x4Ne" else (
    if number == 0xfd0039 then codes "I32x4LtS" else (
    if number == 0xfd003a then codes "I32x4LtU" else (
    if number == 0xfd003b then codes "I32x4GtS" else (
    if number == 0xfd003c then codes "I32x4GtU" else (
    if number == 0xfd003d then codes "I32x4LeS" else (
    if number == 0xfd003e then codes "I32x4LeU" else (
    if number == 0xfd003f then codes "I32x4GeS" else (
    if number == 0xfd0040 then codes "I32x4GeU" else (
    if number == 0xfd00d6 then codes "I64x2Eq" else (
    if number == 0xfd00d7 then codes "I64x2Ne" else (
    if number == 0xfd00d8 then codes "I64x2LtS" else (
    if number == 0xfd00d9 then codes "I64x2GtS" else (
    if number == 0xfd00da then codes "I64x2LeS" else (
    if number == 0xfd00db then codes "I64x2GeS" else (
    if number == 0xfd0041 then codes "F32x4Eq" else (
    if number == 0xfd0042 then codes "F32x4Ne" else (
    if number == 0xfd0043 then codes "F32x4Lt" else (
    if number == 0xfd0044 then codes "F32x4Gt" else (
    if number == 0xfd0045 then codes "F32x4Le" else (
    if number == 0xfd0046 then codes "F32x4Ge" else (
    if number == 0xfd0047 then codes "F64x2Eq" else (
    if number == 0xfd0048 then codes "F64x2Ne" else (
    if number == 0xfd0049 then codes "F64x2Lt" else (
    if number == 0xfd004a then codes "F64x2Gt" else (
    if number == 0xfd004b then codes "F64x2Le" else (
    if number == 0xfd004c then codes "F64x2Ge" else (
    if number == 0xfd004d then codes "V128Not" else (
    if number == 0xfd004e then codes "V128And" else (
    if number == 0xfd004f then codes "V128AndNot" else (simd_names_2 number))))))))))))))))))))))))))))))))))))))))))))))))

abbrev pub simd_names_0 : ℕ → List ℕ
simd_names_0 number =
    if number == 0xfd0000 then codes "V128Load" else (
    if number == 0xfd0001 then codes "V128Load8x8S" else (
    if number == 0xfd0002 then codes "V128Load8x8U" else (
    if number == 0xfd0003 then codes "V128Load16x4S" else (
    if number == 0xfd0004 then codes "V128Load16x4U" else (
    if number == 0xfd0005 then codes "V128Load32x2S" else (
    if number == 0xfd0006 then codes "V128Load32x2U" else (
    if number == 0xfd0007 then codes "V128Load8Splat" else (
    if number == 0xfd0008 then codes "V128Load16Splat" else (
    if number == 0xfd0009 then codes "V128Load32Splat" else (
    if number == 0xfd000a then codes "V128Load64Splat" else (
    if number == 0xfd005c then codes "V128Load32Zero" else (
    if number == 0xfd005d then codes "V128Load64Zero" else (
    if number == 0xfd000b then codes "V128Store" else (
    if number == 0xfd0054 then codes "V128Load8Lane" else (
    if number == 0xfd0055 then codes "V128Load16Lane" else (
    if number == 0xfd0056 then codes "V128Load32Lane" else (
    if number == 0xfd0057 then codes "V128Load64Lane" else (
    if number == 0xfd0058 then codes "V128Store8Lane" else (
    if number == 0xfd0059 then codes "V128Store16Lane" else (
    if number == 0xfd005a then codes "V128Store32Lane" else (
    if number == 0xfd005b then codes "V128Store64Lane" else (
    if number == 0xfd000c then codes "V128Const" else (
    if number == 0xfd000d then codes "I8x16Shuffle" else (
    if number == 0xfd0015 then codes "I8x16ExtractLaneS" else (
    if number == 0xfd0016 then codes "I8x16ExtractLaneU" else (
    if number == 0xfd0017 then codes "I8x16ReplaceLane" else (
    if number == 0xfd0018 then codes "I16x8ExtractLaneS" else (
    if number == 0xfd0019 then codes "I16x8ExtractLaneU" else (
    if number == 0xfd001a then codes "I16x8ReplaceLane" else (
    if number == 0xfd001b then codes "I32x4ExtractLane" else (
    if number == 0xfd001c then codes "I32x4ReplaceLane" else (
    if number == 0xfd001d then codes "I64x2ExtractLane" else (
    if number == 0xfd001e then codes "I64x2ReplaceLane" else (
    if number == 0xfd001f then codes "F32x4ExtractLane" else (
    if number == 0xfd0020 then codes "F32x4ReplaceLane" else (
    if number == 0xfd0021 then codes "F64x2ExtractLane" else (
    if number == 0xfd0022 then codes "F64x2ReplaceLane" else (
    if number == 0xfd000e then codes "I8x16Swizzle" else (
    if number == 0xfd000f then codes "I8x16Splat" else (
    if number == 0xfd0010 then codes "I16x8Splat" else (
    if number == 0xfd0011 then codes "I32x4Splat" else (
    if number == 0xfd0012 then codes "I64x2Splat" else (
    if number == 0xfd0013 then codes "F32x4Splat" else (
    if number == 0xfd0014 then codes "F64x2Splat" else (
    if number == 0xfd0023 then codes "I8x16Eq" else (
    if number == 0xfd0024 then codes "I8x16Ne" else (
    if number == 0xfd0025 then codes "I8x16LtS" else (simd_names_1 number))))))))))))))))))))))))))))))))))))))))))))))))

abbrev pub misc_names_0 : ℕ → List ℕ
misc_names_0 number =
    if number == 0xfc0000 then codes "I32TruncSatF32S" else (
    if number == 0xfc0001 then codes "I32TruncSatF32U" else (
    if number == 0xfc0002 then codes "I32TruncSatF64S" else (
    if number == 0xfc0003 then codes "I32TruncSatF64U" else (
    if number == 0xfc0004 then codes "I64TruncSatF32S" else (
    if number == 0xfc0005 then codes "I64TruncSatF32U" else (
    if number == 0xfc0006 then codes "I64TruncSatF64S" else (
    if number == 0xfc0007 then codes "I64TruncSatF64U" else (
    if number == 0xfc0008 then codes "MemoryInit" else (
    if number == 0xfc0009 then codes "DataDrop" else (
    if number == 0xfc000a then codes "MemoryCopy" else (
    if number == 0xfc000b then codes "MemoryFill" else (
    if number == 0xfc000c then codes "TableInit" else (
    if number == 0xfc000d then codes "ElemDrop" else (
    if number == 0xfc000e then codes "TableCopy" else (
    if number == 0xfc0011 then codes "TableFill" else (
    if number == 0xfc000f then codes "TableGrow" else (
    if number == 0xfc0010 then codes "TableSize" else (
    if number == 0xfc0012 then codes "MemoryDiscard" else (
    if number == 0xfc0013 then codes "I64Add128" else (
    if number == 0xfc0014 then codes "I64Sub128" else (
    if number == 0xfc0015 then codes "I64MulWideS" else (
    if number == 0xfc0016 then codes "I64MulWideU" else (simd_names_0 number)))))))))))))))))))))))

abbrev pub gc_names_0 : ℕ → List ℕ
gc_names_0 number =
    if number == 0xfb0000 then codes "StructNew" else (
    if number == 0xfb0001 then codes "StructNewDefault" else (
    if number == 0xfb0002 then codes "StructGet" else (
    if number == 0xfb0003 then codes "StructGetS" else (
    if number == 0xfb0004 then codes "StructGetU" else (
    if number == 0xfb0005 then codes "StructSet" else (
    if number == 0xfb0006 then codes "ArrayNew" else (
    if number == 0xfb0007 then codes "ArrayNewDefault" else (
    if number == 0xfb0008 then codes "ArrayNewFixed" else (
    if number == 0xfb0009 then codes "ArrayNewData" else (
    if number == 0xfb000a then codes "ArrayNewElem" else (
    if number == 0xfb000b then codes "ArrayGet" else (
    if number == 0xfb000c then codes "ArrayGetS" else (
    if number == 0xfb000d then codes "ArrayGetU" else (
    if number == 0xfb000e then codes "ArraySet" else (
    if number == 0xfb000f then codes "ArrayLen" else (
    if number == 0xfb0010 then codes "ArrayFill" else (
    if number == 0xfb0011 then codes "ArrayCopy" else (
    if number == 0xfb0012 then codes "ArrayInitData" else (
    if number == 0xfb0013 then codes "ArrayInitElem" else (
    if number == 0xfb0014 then codes "RefTestNonNull" else (
    if number == 0xfb0015 then codes "RefTestNullable" else (
    if number == 0xfb0016 then codes "RefCastNonNull" else (
    if number == 0xfb0017 then codes "RefCastNullable" else (
    if number == 0xfb0018 then codes "BrOnCast" else (
    if number == 0xfb0019 then codes "BrOnCastFail" else (
    if number == 0xfb001a then codes "AnyConvertExtern" else (
    if number == 0xfb001b then codes "ExternConvertAny" else (
    if number == 0xfb001c then codes "RefI31" else (
    if number == 0xfb001d then codes "I31GetS" else (
    if number == 0xfb001e then codes "I31GetU" else (
    if number == 0xfb0020 then codes "StructNewDesc" else (
    if number == 0xfb0021 then codes "StructNewDefaultDesc" else (
    if number == 0xfb0022 then codes "RefGetDesc" else (
    if number == 0xfb0023 then codes "RefCastDescEqNonNull" else (
    if number == 0xfb0024 then codes "RefCastDescEqNullable" else (
    if number == 0xfb0025 then codes "BrOnCastDescEq" else (
    if number == 0xfb0026 then codes "BrOnCastDescEqFail" else (misc_names_0 number))))))))))))))))))))))))))))))))))))))

abbrev pub numeric_names_2 : ℕ → List ℕ
numeric_names_2 number =
    if number == 0xa5 then codes "F64Max" else (
    if number == 0xa6 then codes "F64Copysign" else (
    if number == 0xa7 then codes "I32WrapI64" else (
    if number == 0xa8 then codes "I32TruncF32S" else (
    if number == 0xa9 then codes "I32TruncF32U" else (
    if number == 0xaa then codes "I32TruncF64S" else (
    if number == 0xab then codes "I32TruncF64U" else (
    if number == 0xac then codes "I64ExtendI32S" else (
    if number == 0xad then codes "I64ExtendI32U" else (
    if number == 0xae then codes "I64TruncF32S" else (
    if number == 0xaf then codes "I64TruncF32U" else (
    if number == 0xb0 then codes "I64TruncF64S" else (
    if number == 0xb1 then codes "I64TruncF64U" else (
    if number == 0xb2 then codes "F32ConvertI32S" else (
    if number == 0xb3 then codes "F32ConvertI32U" else (
    if number == 0xb4 then codes "F32ConvertI64S" else (
    if number == 0xb5 then codes "F32ConvertI64U" else (
    if number == 0xb6 then codes "F32DemoteF64" else (
    if number == 0xb7 then codes "F64ConvertI32S" else (
    if number == 0xb8 then codes "F64ConvertI32U" else (
    if number == 0xb9 then codes "F64ConvertI64S" else (
    if number == 0xba then codes "F64ConvertI64U" else (
    if number == 0xbb then codes "F64PromoteF32" else (
    if number == 0xbc then codes "I32ReinterpretF32" else (
    if number == 0xbd then codes "I64ReinterpretF64" else (
    if number == 0xbe then codes "F32ReinterpretI32" else (
    if number == 0xbf then codes "F64ReinterpretI64" else (
    if number == 0xc0 then codes "I32Extend8S" else (
    if number == 0xc1 then codes "I32Extend16S" else (
    if number == 0xc2 then codes "I64Extend8S" else (
    if number == 0xc3 then codes "I64Extend16S" else (
    if number == 0xc4 then codes "I64Extend32S" else (gc_names_0 number))))))))))))))))))))))))))))))))

abbrev pub numeric_names_1 : ℕ → List ℕ
numeric_names_1 number =
    if number == 0x75 then codes "I32ShrS" else (
    if number == 0x76 then codes "I32ShrU" else (
    if number == 0x77 then codes "I32Rotl" else (
    if number == 0x78 then codes "I32Rotr" else (
    if number == 0x79 then codes "I64Clz" else (
    if number == 0x7a then codes "I64Ctz" else (
    if number == 0x7b then codes "I64Popcnt" else (
    if number == 0x7c then codes "I64Add" else (
    if number == 0x7d then codes "I64Sub" else (
    if number == 0x7e then codes "I64Mul" else (
    if number == 0x7f then codes "I64DivS" else (
    if number == 0x80 then codes "I64DivU" else (
    if number == 0x81 then codes "I64RemS" else (
    if number == 0x82 then codes "I64RemU" else (
    if number == 0x83 then codes "I64And" else (
    if number == 0x84 then codes "I64Or" else (
    if number == 0x85 then codes "I64Xor" else (
    if number == 0x86 then codes "I64Shl" else (
    if number == 0x87 then codes "I64ShrS" else (
    if number == 0x88 then codes "I64ShrU" else (
    if number == 0x89 then codes "I64Rotl" else (
    if number == 0x8a then codes "I64Rotr" else (
    if number == 0x8b then codes "F32Abs" else (
    if number == 0x8c then codes "F32Neg" else (
    if number == 0x8d then codes "F32Ceil" else (
    if number == 0x8e then codes "F32Floor" else (
    if number == 0x8f then codes "F32Trunc" else (
    if number == 0x90 then codes "F32Nearest" else (
    if number == 0x91 then codes "F32Sqrt" else (
    if number == 0x92 then codes "F32Add" else (
    if number == 0x93 then codes "F32Sub" else (
    if number == 0x94 then codes "F32Mul" else (
    if number == 0x95 then codes "F32Div" else (
    if number == 0x96 then codes "F32Min" else (
    if number == 0x97 then codes "F32Max" else (
    if number == 0x98 then codes "F32Copysign" else (
    if number == 0x99 then codes "F64Abs" else (
    if number == 0x9a then codes "F64Neg" else (
    if number == 0x9b then codes "F64Ceil" else (
    if number == 0x9c then codes "F64Floor" else (
    if number == 0x9d then codes "F64Trunc" else (
    if number == 0x9e then codes "F64Nearest" else (
    if number == 0x9f then codes "F64Sqrt" else (
    if number == 0xa0 then codes "F64Add" else (
    if number == 0xa1 then codes "F64Sub" else (
    if number == 0xa2 then codes "F64Mul" else (
    if number == 0xa3 then codes "F64Div" else (
    if number == 0xa4 then codes "F64Min" else (numeric_names_2 number))))))))))))))))))))))))))))))))))))))))))))))))

abbrev pub numeric_names_0 : ℕ → List ℕ
numeric_names_0 number =
    if number == 0x45 then codes "I32Eqz" else (
    if number == 0x46 then codes "I32Eq" else (
    if number == 0x47 then codes "I32Ne" else (
    if number == 0x48 then codes "I32LtS" else (
    if number == 0x49 then codes "I32LtU" else (
    if number == 0x4a then codes "I32GtS" else (
    if number == 0x4b then codes "I32GtU" else (
    if number == 0x4c then codes "I32LeS" else (
    if number == 0x4d then codes "I32LeU" else (
    if number == 0x4e then codes "I32GeS" else (
    if number == 0x4f then codes "I32GeU" else (
    if number == 0x50 then codes "I64Eqz" else (
    if number == 0x51 then codes "I64Eq" else (
    if number == 0x52 then codes "I64Ne" else (
    if number == 0x53 then codes "I64LtS" else (
    if number == 0x54 then codes "I64LtU" else (
    if number == 0x55 then codes "I64GtS" else (
    if number == 0x56 then codes "I64GtU" else (
    if number == 0x57 then codes "I64LeS" else (
    if number == 0x58 then codes "I64LeU" else (
    if number == 0x59 then codes "I64GeS" else (
    if number == 0x5a then codes "I64GeU" else (
    if number == 0x5b then codes "F32Eq" else (
    if number == 0x5c then codes "F32Ne" else (
    if number == 0x5d then codes "F32Lt" else (
    if number == 0x5e then codes "F32Gt" else (
    if number == 0x5f then codes "F32Le" else (
    if number == 0x60 then codes "F32Ge" else (
    if number == 0x61 then codes "F64Eq" else (
    if number == 0x62 then codes "F64Ne" else (
    if number == 0x63 then codes "F64Lt" else (
    if number == 0x64 then codes "F64Gt" else (
    if number == 0x65 then codes "F64Le" else (
    if number == 0x66 then codes "F64Ge" else (
    if number == 0x67 then codes "I32Clz" else (
    if number == 0x68 then codes "I32Ctz" else (
    if number == 0x69 then codes "I32Popcnt" else (
    if number == 0x6a then codes "I32Add" else (
    if number == 0x6b then codes "I32Sub" else (
    if number == 0x6c then codes "I32Mul" else (
    if number == 0x6d then codes "I32DivS" else (
    if number == 0x6e then codes "I32DivU" else (
    if number == 0x6f then codes "I32RemS" else (
    if number == 0x70 then codes "I32RemU" else (
    if number == 0x71 then codes "I32And" else (
    if number == 0x72 then codes "I32Or" else (
    if number == 0x73 then codes "I32Xor" else (
    if number == 0x74 then codes "I32Shl" else (numeric_names_1 number))))))))))))))))))))))))))))))))))))))))))))))))

abbrev pub own_names_1 : ℕ → List ℕ
own_names_1 number =
    if number == 0x44 then codes "F64Const" else (
    if number == 0xd3 then codes "RefEq" else (
    if number == 0x1c then codes "TypedSelect" else (
    if number == 0xd0 then codes "RefNull" else (
    if number == 0xd1 then codes "RefIsNull" else (
    if number == 0xd2 then codes "RefFunc" else (
    if number == 0x25 then codes "TableGet" else (
    if number == 0x26 then codes "TableSet" else (
    if number == 0x12 then codes "ReturnCall" else (
    if number == 0x13 then codes "ReturnCallIndirect" else (
    if number == 0x1f then codes "TryTable" else (
    if number == 0x8 then codes "Throw" else (
    if number == 0xa then codes "ThrowRef" else (
    if number == 0x6 then codes "Try" else (
    if number == 0x7 then codes "Catch" else (
    if number == 0x9 then codes "Rethrow" else (
    if number == 0x18 then codes "Delegate" else (
    if number == 0x19 then codes "CatchAll" else (
    if number == 0x14 then codes "CallRef" else (
    if number == 0x15 then codes "ReturnCallRef" else (
    if number == 0xd4 then codes "RefAsNonNull" else (
    if number == 0xd5 then codes "BrOnNull" else (
    if number == 0xd6 then codes "BrOnNonNull" else (
    if number == 0xe0 then codes "ContNew" else (
    if number == 0xe1 then codes "ContBind" else (
    if number == 0xe2 then codes "Suspend" else (
    if number == 0xe3 then codes "Resume" else (
    if number == 0xe4 then codes "ResumeThrow" else (
    if number == 0xe5 then codes "ResumeThrowRef" else (
    if number == 0xe6 then codes "Switch" else (numeric_names_0 number))))))))))))))))))))))))))))))

abbrev pub own_names_0 : ℕ → List ℕ
own_names_0 number =
    if number == 0x0 then codes "Unreachable" else (
    if number == 0x1 then codes "Nop" else (
    if number == 0x2 then codes "Block" else (
    if number == 0x3 then codes "Loop" else (
    if number == 0x4 then codes "If" else (
    if number == 0x5 then codes "Else" else (
    if number == 0xb then codes "End" else (
    if number == 0xc then codes "Br" else (
    if number == 0xd then codes "BrIf" else (
    if number == 0xe then codes "BrTable" else (
    if number == 0xf then codes "Return" else (
    if number == 0x10 then codes "Call" else (
    if number == 0x11 then codes "CallIndirect" else (
    if number == 0x1a then codes "Drop" else (
    if number == 0x1b then codes "Select" else (
    if number == 0x20 then codes "LocalGet" else (
    if number == 0x21 then codes "LocalSet" else (
    if number == 0x22 then codes "LocalTee" else (
    if number == 0x23 then codes "GlobalGet" else (
    if number == 0x24 then codes "GlobalSet" else (
    if number == 0x28 then codes "I32Load" else (
    if number == 0x29 then codes "I64Load" else (
    if number == 0x2a then codes "F32Load" else (
    if number == 0x2b then codes "F64Load" else (
    if number == 0x2c then codes "I32Load8S" else (
    if number == 0x2d then codes "I32Load8U" else (
    if number == 0x2e then codes "I32Load16S" else (
    if number == 0x2f then codes "I32Load16U" else (
    if number == 0x30 then codes "I64Load8S" else (
    if number == 0x31 then codes "I64Load8U" else (
    if number == 0x32 then codes "I64Load16S" else (
    if number == 0x33 then codes "I64Load16U" else (
    if number == 0x34 then codes "I64Load32S" else (
    if number == 0x35 then codes "I64Load32U" else (
    if number == 0x36 then codes "I32Store" else (
    if number == 0x37 then codes "I64Store" else (
    if number == 0x38 then codes "F32Store" else (
    if number == 0x39 then codes "F64Store" else (
    if number == 0x3a then codes "I32Store8" else (
    if number == 0x3b then codes "I32Store16" else (
    if number == 0x3c then codes "I64Store8" else (
    if number == 0x3d then codes "I64Store16" else (
    if number == 0x3e then codes "I64Store32" else (
    if number == 0x3f then codes "MemorySize" else (
    if number == 0x40 then codes "MemoryGrow" else (
    if number == 0x41 then codes "I32Const" else (
    if number == 0x42 then codes "I64Const" else (
    if number == 0x43 then codes "F32Const" else (own_names_1 number))))))))))))))))))))))))))))))))))))))))))))))))

-- The name by number and shape: two operators share 0x1c, and shape 19 selects `TypedSelect`.
abbrev pub name_at : ℕ → ℕ → List ℕ
name_at number shape =
    if number == 0x1c then (if shape == 19 then codes "TypedSelect" else codes "TypedSelectMulti") else own_names_0 number
