-- Written by tools/lists.py from tools/operators.tsv.
-- Specification: proposals threads, shared-everything threads and acquire-release atomics; Appendix, Index of Instructions.
use Rattle.std.specs.Prelude.{[], ◌∷◌}
use Rattle.wasm_imm.specs.declared.proposal.Proposal.TheVariants as proposal
use Rattle.wasm_instr_ops.specs.declared.atomic.AtomicOperator.{AtomicOperator}
use Rattle.wasm_instr_ops.specs.declared.atomic.AtomicOperator.TheVariants as atomic
use Rattle.wasm_signatures.specs.Types.{OperatorTyping, fixed, unsupported}
use Rattle.wasm_signatures.specs.declared.operand_type.OperandType.TheVariants as t

-- The typing of the operators with the prefix byte 0xfe.
abbrev pub atomic_typing : AtomicOperator → OperatorTyping
atomic_typing (atomic.MemoryAtomicNotify _) = fixed (record { takes = t.Address ∷ t.I32 ∷ []; leaves = t.I32 ∷ [] })
atomic_typing (atomic.MemoryAtomicWait32 _) = fixed (record { takes = t.Address ∷ t.I32 ∷ t.I64 ∷ []; leaves = t.I32 ∷ [] })
atomic_typing (atomic.MemoryAtomicWait64 _) = fixed (record { takes = t.Address ∷ t.I64 ∷ t.I64 ∷ []; leaves = t.I32 ∷ [] })
atomic_typing (atomic.AtomicFence _) = fixed (record { takes = []; leaves = [] })
atomic_typing (atomic.I32AtomicLoad _) = fixed (record { takes = t.Address ∷ []; leaves = t.I32 ∷ [] })
atomic_typing (atomic.I64AtomicLoad _) = fixed (record { takes = t.Address ∷ []; leaves = t.I64 ∷ [] })
atomic_typing (atomic.I32AtomicLoad8U _) = fixed (record { takes = t.Address ∷ []; leaves = t.I32 ∷ [] })
atomic_typing (atomic.I32AtomicLoad16U _) = fixed (record { takes = t.Address ∷ []; leaves = t.I32 ∷ [] })
atomic_typing (atomic.I64AtomicLoad8U _) = fixed (record { takes = t.Address ∷ []; leaves = t.I64 ∷ [] })
atomic_typing (atomic.I64AtomicLoad16U _) = fixed (record { takes = t.Address ∷ []; leaves = t.I64 ∷ [] })
atomic_typing (atomic.I64AtomicLoad32U _) = fixed (record { takes = t.Address ∷ []; leaves = t.I64 ∷ [] })
atomic_typing (atomic.I32AtomicStore _) = fixed (record { takes = t.Address ∷ t.I32 ∷ []; leaves = [] })
atomic_typing (atomic.I64AtomicStore _) = fixed (record { takes = t.Address ∷ t.I64 ∷ []; leaves = [] })
atomic_typing (atomic.I32AtomicStore8 _) = fixed (record { takes = t.Address ∷ t.I32 ∷ []; leaves = [] })
atomic_typing (atomic.I32AtomicStore16 _) = fixed (record { takes = t.Address ∷ t.I32 ∷ []; leaves = [] })
atomic_typing (atomic.I64AtomicStore8 _) = fixed (record { takes = t.Address ∷ t.I64 ∷ []; leaves = [] })
atomic_typing (atomic.I64AtomicStore16 _) = fixed (record { takes = t.Address ∷ t.I64 ∷ []; leaves = [] })
atomic_typing (atomic.I64AtomicStore32 _) = fixed (record { takes = t.Address ∷ t.I64 ∷ []; leaves = [] })
atomic_typing (atomic.I32AtomicRmwAdd _) = fixed (record { takes = t.Address ∷ t.I32 ∷ []; leaves = t.I32 ∷ [] })
atomic_typing (atomic.I64AtomicRmwAdd _) = fixed (record { takes = t.Address ∷ t.I64 ∷ []; leaves = t.I64 ∷ [] })
atomic_typing (atomic.I32AtomicRmw8AddU _) = fixed (record { takes = t.Address ∷ t.I32 ∷ []; leaves = t.I32 ∷ [] })
atomic_typing (atomic.I32AtomicRmw16AddU _) = fixed (record { takes = t.Address ∷ t.I32 ∷ []; leaves = t.I32 ∷ [] })
atomic_typing (atomic.I64AtomicRmw8AddU _) = fixed (record { takes = t.Address ∷ t.I64 ∷ []; leaves = t.I64 ∷ [] })
atomic_typing (atomic.I64AtomicRmw16AddU _) = fixed (record { takes = t.Address ∷ t.I64 ∷ []; leaves = t.I64 ∷ [] })
atomic_typing (atomic.I64AtomicRmw32AddU _) = fixed (record { takes = t.Address ∷ t.I64 ∷ []; leaves = t.I64 ∷ [] })
atomic_typing (atomic.I32AtomicRmwSub _) = fixed (record { takes = t.Address ∷ t.I32 ∷ []; leaves = t.I32 ∷ [] })
atomic_typing (atomic.I64AtomicRmwSub _) = fixed (record { takes = t.Address ∷ t.I64 ∷ []; leaves = t.I64 ∷ [] })
atomic_typing (atomic.I32AtomicRmw8SubU _) = fixed (record { takes = t.Address ∷ t.I32 ∷ []; leaves = t.I32 ∷ [] })
atomic_typing (atomic.I32AtomicRmw16SubU _) = fixed (record { takes = t.Address ∷ t.I32 ∷ []; leaves = t.I32 ∷ [] })
atomic_typing (atomic.I64AtomicRmw8SubU _) = fixed (record { takes = t.Address ∷ t.I64 ∷ []; leaves = t.I64 ∷ [] })
atomic_typing (atomic.I64AtomicRmw16SubU _) = fixed (record { takes = t.Address ∷ t.I64 ∷ []; leaves = t.I64 ∷ [] })
atomic_typing (atomic.I64AtomicRmw32SubU _) = fixed (record { takes = t.Address ∷ t.I64 ∷ []; leaves = t.I64 ∷ [] })
atomic_typing (atomic.I32AtomicRmwAnd _) = fixed (record { takes = t.Address ∷ t.I32 ∷ []; leaves = t.I32 ∷ [] })
atomic_typing (atomic.I64AtomicRmwAnd _) = fixed (record { takes = t.Address ∷ t.I64 ∷ []; leaves = t.I64 ∷ [] })
atomic_typing (atomic.I32AtomicRmw8AndU _) = fixed (record { takes = t.Address ∷ t.I32 ∷ []; leaves = t.I32 ∷ [] })
atomic_typing (atomic.I32AtomicRmw16AndU _) = fixed (record { takes = t.Address ∷ t.I32 ∷ []; leaves = t.I32 ∷ [] })
atomic_typing (atomic.I64AtomicRmw8AndU _) = fixed (record { takes = t.Address ∷ t.I64 ∷ []; leaves = t.I64 ∷ [] })
atomic_typing (atomic.I64AtomicRmw16AndU _) = fixed (record { takes = t.Address ∷ t.I64 ∷ []; leaves = t.I64 ∷ [] })
atomic_typing (atomic.I64AtomicRmw32AndU _) = fixed (record { takes = t.Address ∷ t.I64 ∷ []; leaves = t.I64 ∷ [] })
atomic_typing (atomic.I32AtomicRmwOr _) = fixed (record { takes = t.Address ∷ t.I32 ∷ []; leaves = t.I32 ∷ [] })
atomic_typing (atomic.I64AtomicRmwOr _) = fixed (record { takes = t.Address ∷ t.I64 ∷ []; leaves = t.I64 ∷ [] })
atomic_typing (atomic.I32AtomicRmw8OrU _) = fixed (record { takes = t.Address ∷ t.I32 ∷ []; leaves = t.I32 ∷ [] })
atomic_typing (atomic.I32AtomicRmw16OrU _) = fixed (record { takes = t.Address ∷ t.I32 ∷ []; leaves = t.I32 ∷ [] })
atomic_typing (atomic.I64AtomicRmw8OrU _) = fixed (record { takes = t.Address ∷ t.I64 ∷ []; leaves = t.I64 ∷ [] })
atomic_typing (atomic.I64AtomicRmw16OrU _) = fixed (record { takes = t.Address ∷ t.I64 ∷ []; leaves = t.I64 ∷ [] })
atomic_typing (atomic.I64AtomicRmw32OrU _) = fixed (record { takes = t.Address ∷ t.I64 ∷ []; leaves = t.I64 ∷ [] })
atomic_typing (atomic.I32AtomicRmwXor _) = fixed (record { takes = t.Address ∷ t.I32 ∷ []; leaves = t.I32 ∷ [] })
atomic_typing (atomic.I64AtomicRmwXor _) = fixed (record { takes = t.Address ∷ t.I64 ∷ []; leaves = t.I64 ∷ [] })
atomic_typing (atomic.I32AtomicRmw8XorU _) = fixed (record { takes = t.Address ∷ t.I32 ∷ []; leaves = t.I32 ∷ [] })
atomic_typing (atomic.I32AtomicRmw16XorU _) = fixed (record { takes = t.Address ∷ t.I32 ∷ []; leaves = t.I32 ∷ [] })
atomic_typing (atomic.I64AtomicRmw8XorU _) = fixed (record { takes = t.Address ∷ t.I64 ∷ []; leaves = t.I64 ∷ [] })
atomic_typing (atomic.I64AtomicRmw16XorU _) = fixed (record { takes = t.Address ∷ t.I64 ∷ []; leaves = t.I64 ∷ [] })
atomic_typing (atomic.I64AtomicRmw32XorU _) = fixed (record { takes = t.Address ∷ t.I64 ∷ []; leaves = t.I64 ∷ [] })
atomic_typing (atomic.I32AtomicRmwXchg _) = fixed (record { takes = t.Address ∷ t.I32 ∷ []; leaves = t.I32 ∷ [] })
atomic_typing (atomic.I64AtomicRmwXchg _) = fixed (record { takes = t.Address ∷ t.I64 ∷ []; leaves = t.I64 ∷ [] })
atomic_typing (atomic.I32AtomicRmw8XchgU _) = fixed (record { takes = t.Address ∷ t.I32 ∷ []; leaves = t.I32 ∷ [] })
atomic_typing (atomic.I32AtomicRmw16XchgU _) = fixed (record { takes = t.Address ∷ t.I32 ∷ []; leaves = t.I32 ∷ [] })
atomic_typing (atomic.I64AtomicRmw8XchgU _) = fixed (record { takes = t.Address ∷ t.I64 ∷ []; leaves = t.I64 ∷ [] })
atomic_typing (atomic.I64AtomicRmw16XchgU _) = fixed (record { takes = t.Address ∷ t.I64 ∷ []; leaves = t.I64 ∷ [] })
atomic_typing (atomic.I64AtomicRmw32XchgU _) = fixed (record { takes = t.Address ∷ t.I64 ∷ []; leaves = t.I64 ∷ [] })
atomic_typing (atomic.I32AtomicRmwCmpxchg _) = fixed (record { takes = t.Address ∷ t.I32 ∷ t.I32 ∷ []; leaves = t.I32 ∷ [] })
atomic_typing (atomic.I64AtomicRmwCmpxchg _) = fixed (record { takes = t.Address ∷ t.I64 ∷ t.I64 ∷ []; leaves = t.I64 ∷ [] })
atomic_typing (atomic.I32AtomicRmw8CmpxchgU _) = fixed (record { takes = t.Address ∷ t.I32 ∷ t.I32 ∷ []; leaves = t.I32 ∷ [] })
atomic_typing (atomic.I32AtomicRmw16CmpxchgU _) = fixed (record { takes = t.Address ∷ t.I32 ∷ t.I32 ∷ []; leaves = t.I32 ∷ [] })
atomic_typing (atomic.I64AtomicRmw8CmpxchgU _) = fixed (record { takes = t.Address ∷ t.I64 ∷ t.I64 ∷ []; leaves = t.I64 ∷ [] })
atomic_typing (atomic.I64AtomicRmw16CmpxchgU _) = fixed (record { takes = t.Address ∷ t.I64 ∷ t.I64 ∷ []; leaves = t.I64 ∷ [] })
atomic_typing (atomic.I64AtomicRmw32CmpxchgU _) = fixed (record { takes = t.Address ∷ t.I64 ∷ t.I64 ∷ []; leaves = t.I64 ∷ [] })
atomic_typing (atomic.GlobalAtomicGet _ _) = unsupported proposal.SharedEverythingThreads
atomic_typing (atomic.GlobalAtomicSet _ _) = unsupported proposal.SharedEverythingThreads
atomic_typing (atomic.GlobalAtomicRmwAdd _ _) = unsupported proposal.SharedEverythingThreads
atomic_typing (atomic.GlobalAtomicRmwSub _ _) = unsupported proposal.SharedEverythingThreads
atomic_typing (atomic.GlobalAtomicRmwAnd _ _) = unsupported proposal.SharedEverythingThreads
atomic_typing (atomic.GlobalAtomicRmwOr _ _) = unsupported proposal.SharedEverythingThreads
atomic_typing (atomic.GlobalAtomicRmwXor _ _) = unsupported proposal.SharedEverythingThreads
atomic_typing (atomic.GlobalAtomicRmwXchg _ _) = unsupported proposal.SharedEverythingThreads
atomic_typing (atomic.GlobalAtomicRmwCmpxchg _ _) = unsupported proposal.SharedEverythingThreads
atomic_typing (atomic.TableAtomicGet _ _) = unsupported proposal.SharedEverythingThreads
atomic_typing (atomic.TableAtomicSet _ _) = unsupported proposal.SharedEverythingThreads
atomic_typing (atomic.TableAtomicRmwXchg _ _) = unsupported proposal.SharedEverythingThreads
atomic_typing (atomic.TableAtomicRmwCmpxchg _ _) = unsupported proposal.SharedEverythingThreads
atomic_typing (atomic.StructAtomicGet _ _ _) = unsupported proposal.SharedEverythingThreads
atomic_typing (atomic.StructAtomicGetS _ _ _) = unsupported proposal.SharedEverythingThreads
atomic_typing (atomic.StructAtomicGetU _ _ _) = unsupported proposal.SharedEverythingThreads
atomic_typing (atomic.StructAtomicSet _ _ _) = unsupported proposal.SharedEverythingThreads
atomic_typing (atomic.StructAtomicRmwAdd _ _ _) = unsupported proposal.SharedEverythingThreads
atomic_typing (atomic.StructAtomicRmwSub _ _ _) = unsupported proposal.SharedEverythingThreads
atomic_typing (atomic.StructAtomicRmwAnd _ _ _) = unsupported proposal.SharedEverythingThreads
atomic_typing (atomic.StructAtomicRmwOr _ _ _) = unsupported proposal.SharedEverythingThreads
atomic_typing (atomic.StructAtomicRmwXor _ _ _) = unsupported proposal.SharedEverythingThreads
atomic_typing (atomic.StructAtomicRmwXchg _ _ _) = unsupported proposal.SharedEverythingThreads
atomic_typing (atomic.StructAtomicRmwCmpxchg _ _ _) = unsupported proposal.SharedEverythingThreads
atomic_typing (atomic.ArrayAtomicGet _ _) = unsupported proposal.SharedEverythingThreads
atomic_typing (atomic.ArrayAtomicGetS _ _) = unsupported proposal.SharedEverythingThreads
atomic_typing (atomic.ArrayAtomicGetU _ _) = unsupported proposal.SharedEverythingThreads
atomic_typing (atomic.ArrayAtomicSet _ _) = unsupported proposal.SharedEverythingThreads
atomic_typing (atomic.ArrayAtomicRmwAdd _ _) = unsupported proposal.SharedEverythingThreads
atomic_typing (atomic.ArrayAtomicRmwSub _ _) = unsupported proposal.SharedEverythingThreads
atomic_typing (atomic.ArrayAtomicRmwAnd _ _) = unsupported proposal.SharedEverythingThreads
atomic_typing (atomic.ArrayAtomicRmwOr _ _) = unsupported proposal.SharedEverythingThreads
atomic_typing (atomic.ArrayAtomicRmwXor _ _) = unsupported proposal.SharedEverythingThreads
atomic_typing (atomic.ArrayAtomicRmwXchg _ _) = unsupported proposal.SharedEverythingThreads
atomic_typing (atomic.ArrayAtomicRmwCmpxchg _ _) = unsupported proposal.SharedEverythingThreads
atomic_typing atomic.RefI31Shared = unsupported proposal.SharedEverythingThreads
atomic_typing atomic.Pause = unsupported proposal.AcquireReleaseAtomics
