-- Written by tools/lists.py from tools/operators.tsv.
-- The immediates of which a rule has a premise. Specification: Validation, Memory Instructions and Vector Instructions.
use Rattle.std.specs.Prelude.{ℕ, Option, Some, None}
use Rattle.wasm_imm.specs.declared.memory_argument.MemArg.{MemArg}
use Rattle.wasm_instr_simd.specs.declared.simd.SimdOperator.{SimdOperator}
use Rattle.wasm_instr_simd.specs.declared.simd.SimdOperator.TheVariants as simd
use Rattle.wasm_instr_ops.specs.declared.atomic.AtomicOperator.{AtomicOperator}
use Rattle.wasm_instr_ops.specs.declared.atomic.AtomicOperator.TheVariants as atomic
use Rattle.wasm_instr.specs.declared.operator.Operator.{Operator}
use Rattle.wasm_instr.specs.declared.operator.Operator.TheVariants as operator

abbrev pub simd_argument : SimdOperator → Option MemArg
simd_argument (simd.V128Load memarg) = Some memarg
simd_argument (simd.V128Load8x8S memarg) = Some memarg
simd_argument (simd.V128Load8x8U memarg) = Some memarg
simd_argument (simd.V128Load16x4S memarg) = Some memarg
simd_argument (simd.V128Load16x4U memarg) = Some memarg
simd_argument (simd.V128Load32x2S memarg) = Some memarg
simd_argument (simd.V128Load32x2U memarg) = Some memarg
simd_argument (simd.V128Load8Splat memarg) = Some memarg
simd_argument (simd.V128Load16Splat memarg) = Some memarg
simd_argument (simd.V128Load32Splat memarg) = Some memarg
simd_argument (simd.V128Load64Splat memarg) = Some memarg
simd_argument (simd.V128Load32Zero memarg) = Some memarg
simd_argument (simd.V128Load64Zero memarg) = Some memarg
simd_argument (simd.V128Store memarg) = Some memarg
simd_argument (simd.V128Load8Lane memarg _) = Some memarg
simd_argument (simd.V128Load16Lane memarg _) = Some memarg
simd_argument (simd.V128Load32Lane memarg _) = Some memarg
simd_argument (simd.V128Load64Lane memarg _) = Some memarg
simd_argument (simd.V128Store8Lane memarg _) = Some memarg
simd_argument (simd.V128Store16Lane memarg _) = Some memarg
simd_argument (simd.V128Store32Lane memarg _) = Some memarg
simd_argument (simd.V128Store64Lane memarg _) = Some memarg
simd_argument _ = None

abbrev pub atomic_argument : AtomicOperator → Option MemArg
atomic_argument (atomic.MemoryAtomicNotify memarg) = Some memarg
atomic_argument (atomic.MemoryAtomicWait32 memarg) = Some memarg
atomic_argument (atomic.MemoryAtomicWait64 memarg) = Some memarg
atomic_argument (atomic.I32AtomicLoad memarg) = Some memarg
atomic_argument (atomic.I64AtomicLoad memarg) = Some memarg
atomic_argument (atomic.I32AtomicLoad8U memarg) = Some memarg
atomic_argument (atomic.I32AtomicLoad16U memarg) = Some memarg
atomic_argument (atomic.I64AtomicLoad8U memarg) = Some memarg
atomic_argument (atomic.I64AtomicLoad16U memarg) = Some memarg
atomic_argument (atomic.I64AtomicLoad32U memarg) = Some memarg
atomic_argument (atomic.I32AtomicStore memarg) = Some memarg
atomic_argument (atomic.I64AtomicStore memarg) = Some memarg
atomic_argument (atomic.I32AtomicStore8 memarg) = Some memarg
atomic_argument (atomic.I32AtomicStore16 memarg) = Some memarg
atomic_argument (atomic.I64AtomicStore8 memarg) = Some memarg
atomic_argument (atomic.I64AtomicStore16 memarg) = Some memarg
atomic_argument (atomic.I64AtomicStore32 memarg) = Some memarg
atomic_argument (atomic.I32AtomicRmwAdd memarg) = Some memarg
atomic_argument (atomic.I64AtomicRmwAdd memarg) = Some memarg
atomic_argument (atomic.I32AtomicRmw8AddU memarg) = Some memarg
atomic_argument (atomic.I32AtomicRmw16AddU memarg) = Some memarg
atomic_argument (atomic.I64AtomicRmw8AddU memarg) = Some memarg
atomic_argument (atomic.I64AtomicRmw16AddU memarg) = Some memarg
atomic_argument (atomic.I64AtomicRmw32AddU memarg) = Some memarg
atomic_argument (atomic.I32AtomicRmwSub memarg) = Some memarg
atomic_argument (atomic.I64AtomicRmwSub memarg) = Some memarg
atomic_argument (atomic.I32AtomicRmw8SubU memarg) = Some memarg
atomic_argument (atomic.I32AtomicRmw16SubU memarg) = Some memarg
atomic_argument (atomic.I64AtomicRmw8SubU memarg) = Some memarg
atomic_argument (atomic.I64AtomicRmw16SubU memarg) = Some memarg
atomic_argument (atomic.I64AtomicRmw32SubU memarg) = Some memarg
atomic_argument (atomic.I32AtomicRmwAnd memarg) = Some memarg
atomic_argument (atomic.I64AtomicRmwAnd memarg) = Some memarg
atomic_argument (atomic.I32AtomicRmw8AndU memarg) = Some memarg
atomic_argument (atomic.I32AtomicRmw16AndU memarg) = Some memarg
atomic_argument (atomic.I64AtomicRmw8AndU memarg) = Some memarg
atomic_argument (atomic.I64AtomicRmw16AndU memarg) = Some memarg
atomic_argument (atomic.I64AtomicRmw32AndU memarg) = Some memarg
atomic_argument (atomic.I32AtomicRmwOr memarg) = Some memarg
atomic_argument (atomic.I64AtomicRmwOr memarg) = Some memarg
atomic_argument (atomic.I32AtomicRmw8OrU memarg) = Some memarg
atomic_argument (atomic.I32AtomicRmw16OrU memarg) = Some memarg
atomic_argument (atomic.I64AtomicRmw8OrU memarg) = Some memarg
atomic_argument (atomic.I64AtomicRmw16OrU memarg) = Some memarg
atomic_argument (atomic.I64AtomicRmw32OrU memarg) = Some memarg
atomic_argument (atomic.I32AtomicRmwXor memarg) = Some memarg
atomic_argument (atomic.I64AtomicRmwXor memarg) = Some memarg
atomic_argument (atomic.I32AtomicRmw8XorU memarg) = Some memarg
atomic_argument (atomic.I32AtomicRmw16XorU memarg) = Some memarg
atomic_argument (atomic.I64AtomicRmw8XorU memarg) = Some memarg
atomic_argument (atomic.I64AtomicRmw16XorU memarg) = Some memarg
atomic_argument (atomic.I64AtomicRmw32XorU memarg) = Some memarg
atomic_argument (atomic.I32AtomicRmwXchg memarg) = Some memarg
atomic_argument (atomic.I64AtomicRmwXchg memarg) = Some memarg
atomic_argument (atomic.I32AtomicRmw8XchgU memarg) = Some memarg
atomic_argument (atomic.I32AtomicRmw16XchgU memarg) = Some memarg
atomic_argument (atomic.I64AtomicRmw8XchgU memarg) = Some memarg
atomic_argument (atomic.I64AtomicRmw16XchgU memarg) = Some memarg
atomic_argument (atomic.I64AtomicRmw32XchgU memarg) = Some memarg
atomic_argument (atomic.I32AtomicRmwCmpxchg memarg) = Some memarg
atomic_argument (atomic.I64AtomicRmwCmpxchg memarg) = Some memarg
atomic_argument (atomic.I32AtomicRmw8CmpxchgU memarg) = Some memarg
atomic_argument (atomic.I32AtomicRmw16CmpxchgU memarg) = Some memarg
atomic_argument (atomic.I64AtomicRmw8CmpxchgU memarg) = Some memarg
atomic_argument (atomic.I64AtomicRmw16CmpxchgU memarg) = Some memarg
atomic_argument (atomic.I64AtomicRmw32CmpxchgU memarg) = Some memarg
atomic_argument _ = None

-- The memory argument of a load, a store or an atomic access.
abbrev pub argument_of : Operator → Option MemArg
argument_of (operator.I32Load memarg) = Some memarg
argument_of (operator.I64Load memarg) = Some memarg
argument_of (operator.F32Load memarg) = Some memarg
argument_of (operator.F64Load memarg) = Some memarg
argument_of (operator.I32Load8S memarg) = Some memarg
argument_of (operator.I32Load8U memarg) = Some memarg
argument_of (operator.I32Load16S memarg) = Some memarg
argument_of (operator.I32Load16U memarg) = Some memarg
argument_of (operator.I64Load8S memarg) = Some memarg
argument_of (operator.I64Load8U memarg) = Some memarg
argument_of (operator.I64Load16S memarg) = Some memarg
argument_of (operator.I64Load16U memarg) = Some memarg
argument_of (operator.I64Load32S memarg) = Some memarg
argument_of (operator.I64Load32U memarg) = Some memarg
argument_of (operator.I32Store memarg) = Some memarg
argument_of (operator.I64Store memarg) = Some memarg
argument_of (operator.F32Store memarg) = Some memarg
argument_of (operator.F64Store memarg) = Some memarg
argument_of (operator.I32Store8 memarg) = Some memarg
argument_of (operator.I32Store16 memarg) = Some memarg
argument_of (operator.I64Store8 memarg) = Some memarg
argument_of (operator.I64Store16 memarg) = Some memarg
argument_of (operator.I64Store32 memarg) = Some memarg
argument_of (operator.Simd op) = simd_argument op
argument_of (operator.Atomic op) = atomic_argument op
argument_of _ = None

-- The lane index of an operator with one, and the number of lanes.
abbrev pub lane_of : SimdOperator → Option (ℕ × ℕ)
lane_of (simd.V128Load8Lane _ lane) = Some (lane, 16)
lane_of (simd.V128Load16Lane _ lane) = Some (lane, 8)
lane_of (simd.V128Load32Lane _ lane) = Some (lane, 4)
lane_of (simd.V128Load64Lane _ lane) = Some (lane, 2)
lane_of (simd.V128Store8Lane _ lane) = Some (lane, 16)
lane_of (simd.V128Store16Lane _ lane) = Some (lane, 8)
lane_of (simd.V128Store32Lane _ lane) = Some (lane, 4)
lane_of (simd.V128Store64Lane _ lane) = Some (lane, 2)
lane_of (simd.I8x16ExtractLaneS lane) = Some (lane, 16)
lane_of (simd.I8x16ExtractLaneU lane) = Some (lane, 16)
lane_of (simd.I8x16ReplaceLane lane) = Some (lane, 16)
lane_of (simd.I16x8ExtractLaneS lane) = Some (lane, 8)
lane_of (simd.I16x8ExtractLaneU lane) = Some (lane, 8)
lane_of (simd.I16x8ReplaceLane lane) = Some (lane, 8)
lane_of (simd.I32x4ExtractLane lane) = Some (lane, 4)
lane_of (simd.I32x4ReplaceLane lane) = Some (lane, 4)
lane_of (simd.I64x2ExtractLane lane) = Some (lane, 2)
lane_of (simd.I64x2ReplaceLane lane) = Some (lane, 2)
lane_of (simd.F32x4ExtractLane lane) = Some (lane, 4)
lane_of (simd.F32x4ReplaceLane lane) = Some (lane, 4)
lane_of (simd.F64x2ExtractLane lane) = Some (lane, 2)
lane_of (simd.F64x2ReplaceLane lane) = Some (lane, 2)
lane_of _ = None
