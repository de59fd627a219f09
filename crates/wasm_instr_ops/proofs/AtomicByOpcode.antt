-- Written by tools/lists.py from tools/operators.tsv.
use Rattle.std.proofs.Common.{◌≡◌, ℕ, List, [], ◌∷◌, map, get_or, refl, sym, ap, ◌∙◌}
use Rattle.wasm_imm.specs.declared.memory_argument.MemArgKind.TheVariants as kind
use Rattle.wasm_instr_ops.specs.declared.atomic.AtomicOperator.{AtomicOperator}
use Rattle.wasm_instr_ops.specs.declared.atomic.AtomicOperator.TheVariants as atomic
use Rattle.wasm_instr_ops.specs.declared.atomic.AtomicFields.{AtomicFields}
use Rattle.wasm_instr_ops.specs.declared.atomic.AtomicFields.TheVariants as fields
use Rattle.wasm_instr_ops.specs.Atomic.{atomic_name, atomic_subopcode, atomic_immediates, atomic_fields}
use Rattle.wasm_imm.specs.Immediate.{Immediate, kind_of, unsigned_32, memory_argument, order, fence_order}
use Rattle.wasm_imm.proofs.Values.{tail_of, number_in, argument_in, order_in}

abbrev makers : List (List Immediate → AtomicOperator)
makers =
    (λ is. atomic.MemoryAtomicNotify (argument_in is)) ∷
    (λ is. atomic.MemoryAtomicWait32 (argument_in is)) ∷
    (λ is. atomic.MemoryAtomicWait64 (argument_in is)) ∷
    (λ is. atomic.AtomicFence (order_in is)) ∷
    (λ is. atomic.Pause) ∷
    (λ is. atomic.MemoryAtomicNotify (argument_in is)) ∷
    (λ is. atomic.MemoryAtomicNotify (argument_in is)) ∷
    (λ is. atomic.MemoryAtomicNotify (argument_in is)) ∷
    (λ is. atomic.MemoryAtomicNotify (argument_in is)) ∷
    (λ is. atomic.MemoryAtomicNotify (argument_in is)) ∷
    (λ is. atomic.MemoryAtomicNotify (argument_in is)) ∷
    (λ is. atomic.MemoryAtomicNotify (argument_in is)) ∷
    (λ is. atomic.MemoryAtomicNotify (argument_in is)) ∷
    (λ is. atomic.MemoryAtomicNotify (argument_in is)) ∷
    (λ is. atomic.MemoryAtomicNotify (argument_in is)) ∷
    (λ is. atomic.MemoryAtomicNotify (argument_in is)) ∷
    (λ is. atomic.I32AtomicLoad (argument_in is)) ∷
    (λ is. atomic.I64AtomicLoad (argument_in is)) ∷
    (λ is. atomic.I32AtomicLoad8U (argument_in is)) ∷
    (λ is. atomic.I32AtomicLoad16U (argument_in is)) ∷
    (λ is. atomic.I64AtomicLoad8U (argument_in is)) ∷
    (λ is. atomic.I64AtomicLoad16U (argument_in is)) ∷
    (λ is. atomic.I64AtomicLoad32U (argument_in is)) ∷
    (λ is. atomic.I32AtomicStore (argument_in is)) ∷
    (λ is. atomic.I64AtomicStore (argument_in is)) ∷
    (λ is. atomic.I32AtomicStore8 (argument_in is)) ∷
    (λ is. atomic.I32AtomicStore16 (argument_in is)) ∷
    (λ is. atomic.I64AtomicStore8 (argument_in is)) ∷
    (λ is. atomic.I64AtomicStore16 (argument_in is)) ∷
    (λ is. atomic.I64AtomicStore32 (argument_in is)) ∷
    (λ is. atomic.I32AtomicRmwAdd (argument_in is)) ∷
    (λ is. atomic.I64AtomicRmwAdd (argument_in is)) ∷
    (λ is. atomic.I32AtomicRmw8AddU (argument_in is)) ∷
    (λ is. atomic.I32AtomicRmw16AddU (argument_in is)) ∷
    (λ is. atomic.I64AtomicRmw8AddU (argument_in is)) ∷
    (λ is. atomic.I64AtomicRmw16AddU (argument_in is)) ∷
    (λ is. atomic.I64AtomicRmw32AddU (argument_in is)) ∷
    (λ is. atomic.I32AtomicRmwSub (argument_in is)) ∷
    (λ is. atomic.I64AtomicRmwSub (argument_in is)) ∷
    (λ is. atomic.I32AtomicRmw8SubU (argument_in is)) ∷
    (λ is. atomic.I32AtomicRmw16SubU (argument_in is)) ∷
    (λ is. atomic.I64AtomicRmw8SubU (argument_in is)) ∷
    (λ is. atomic.I64AtomicRmw16SubU (argument_in is)) ∷
    (λ is. atomic.I64AtomicRmw32SubU (argument_in is)) ∷
    (λ is. atomic.I32AtomicRmwAnd (argument_in is)) ∷
    (λ is. atomic.I64AtomicRmwAnd (argument_in is)) ∷
    (λ is. atomic.I32AtomicRmw8AndU (argument_in is)) ∷
    (λ is. atomic.I32AtomicRmw16AndU (argument_in is)) ∷
    (λ is. atomic.I64AtomicRmw8AndU (argument_in is)) ∷
    (λ is. atomic.I64AtomicRmw16AndU (argument_in is)) ∷
    (λ is. atomic.I64AtomicRmw32AndU (argument_in is)) ∷
    (λ is. atomic.I32AtomicRmwOr (argument_in is)) ∷
    (λ is. atomic.I64AtomicRmwOr (argument_in is)) ∷
    (λ is. atomic.I32AtomicRmw8OrU (argument_in is)) ∷
    (λ is. atomic.I32AtomicRmw16OrU (argument_in is)) ∷
    (λ is. atomic.I64AtomicRmw8OrU (argument_in is)) ∷
    (λ is. atomic.I64AtomicRmw16OrU (argument_in is)) ∷
    (λ is. atomic.I64AtomicRmw32OrU (argument_in is)) ∷
    (λ is. atomic.I32AtomicRmwXor (argument_in is)) ∷
    (λ is. atomic.I64AtomicRmwXor (argument_in is)) ∷
    (λ is. atomic.I32AtomicRmw8XorU (argument_in is)) ∷
    (λ is. atomic.I32AtomicRmw16XorU (argument_in is)) ∷
    (λ is. atomic.I64AtomicRmw8XorU (argument_in is)) ∷
    (λ is. atomic.I64AtomicRmw16XorU (argument_in is)) ∷
    (λ is. atomic.I64AtomicRmw32XorU (argument_in is)) ∷
    (λ is. atomic.I32AtomicRmwXchg (argument_in is)) ∷
    (λ is. atomic.I64AtomicRmwXchg (argument_in is)) ∷
    (λ is. atomic.I32AtomicRmw8XchgU (argument_in is)) ∷
    (λ is. atomic.I32AtomicRmw16XchgU (argument_in is)) ∷
    (λ is. atomic.I64AtomicRmw8XchgU (argument_in is)) ∷
    (λ is. atomic.I64AtomicRmw16XchgU (argument_in is)) ∷
    (λ is. atomic.I64AtomicRmw32XchgU (argument_in is)) ∷
    (λ is. atomic.I32AtomicRmwCmpxchg (argument_in is)) ∷
    (λ is. atomic.I64AtomicRmwCmpxchg (argument_in is)) ∷
    (λ is. atomic.I32AtomicRmw8CmpxchgU (argument_in is)) ∷
    (λ is. atomic.I32AtomicRmw16CmpxchgU (argument_in is)) ∷
    (λ is. atomic.I64AtomicRmw8CmpxchgU (argument_in is)) ∷
    (λ is. atomic.I64AtomicRmw16CmpxchgU (argument_in is)) ∷
    (λ is. atomic.I64AtomicRmw32CmpxchgU (argument_in is)) ∷
    (λ is. atomic.GlobalAtomicGet (order_in is) (number_in (tail_of is))) ∷
    (λ is. atomic.GlobalAtomicSet (order_in is) (number_in (tail_of is))) ∷
    (λ is. atomic.GlobalAtomicRmwAdd (order_in is) (number_in (tail_of is))) ∷
    (λ is. atomic.GlobalAtomicRmwSub (order_in is) (number_in (tail_of is))) ∷
    (λ is. atomic.GlobalAtomicRmwAnd (order_in is) (number_in (tail_of is))) ∷
    (λ is. atomic.GlobalAtomicRmwOr (order_in is) (number_in (tail_of is))) ∷
    (λ is. atomic.GlobalAtomicRmwXor (order_in is) (number_in (tail_of is))) ∷
    (λ is. atomic.GlobalAtomicRmwXchg (order_in is) (number_in (tail_of is))) ∷
    (λ is. atomic.GlobalAtomicRmwCmpxchg (order_in is) (number_in (tail_of is))) ∷
    (λ is. atomic.TableAtomicGet (order_in is) (number_in (tail_of is))) ∷
    (λ is. atomic.TableAtomicSet (order_in is) (number_in (tail_of is))) ∷
    (λ is. atomic.TableAtomicRmwXchg (order_in is) (number_in (tail_of is))) ∷
    (λ is. atomic.TableAtomicRmwCmpxchg (order_in is) (number_in (tail_of is))) ∷
    (λ is. atomic.StructAtomicGet (order_in is) (number_in (tail_of is)) (number_in (tail_of (tail_of is)))) ∷
    (λ is. atomic.StructAtomicGetS (order_in is) (number_in (tail_of is)) (number_in (tail_of (tail_of is)))) ∷
    (λ is. atomic.StructAtomicGetU (order_in is) (number_in (tail_of is)) (number_in (tail_of (tail_of is)))) ∷
    (λ is. atomic.StructAtomicSet (order_in is) (number_in (tail_of is)) (number_in (tail_of (tail_of is)))) ∷
    (λ is. atomic.StructAtomicRmwAdd (order_in is) (number_in (tail_of is)) (number_in (tail_of (tail_of is)))) ∷
    (λ is. atomic.StructAtomicRmwSub (order_in is) (number_in (tail_of is)) (number_in (tail_of (tail_of is)))) ∷
    (λ is. atomic.StructAtomicRmwAnd (order_in is) (number_in (tail_of is)) (number_in (tail_of (tail_of is)))) ∷
    (λ is. atomic.StructAtomicRmwOr (order_in is) (number_in (tail_of is)) (number_in (tail_of (tail_of is)))) ∷
    (λ is. atomic.StructAtomicRmwXor (order_in is) (number_in (tail_of is)) (number_in (tail_of (tail_of is)))) ∷
    (λ is. atomic.StructAtomicRmwXchg (order_in is) (number_in (tail_of is)) (number_in (tail_of (tail_of is)))) ∷
    (λ is. atomic.StructAtomicRmwCmpxchg (order_in is) (number_in (tail_of is)) (number_in (tail_of (tail_of is)))) ∷
    (λ is. atomic.ArrayAtomicGet (order_in is) (number_in (tail_of is))) ∷
    (λ is. atomic.ArrayAtomicGetS (order_in is) (number_in (tail_of is))) ∷
    (λ is. atomic.ArrayAtomicGetU (order_in is) (number_in (tail_of is))) ∷
    (λ is. atomic.ArrayAtomicSet (order_in is) (number_in (tail_of is))) ∷
    (λ is. atomic.ArrayAtomicRmwAdd (order_in is) (number_in (tail_of is))) ∷
    (λ is. atomic.ArrayAtomicRmwSub (order_in is) (number_in (tail_of is))) ∷
    (λ is. atomic.ArrayAtomicRmwAnd (order_in is) (number_in (tail_of is))) ∷
    (λ is. atomic.ArrayAtomicRmwOr (order_in is) (number_in (tail_of is))) ∷
    (λ is. atomic.ArrayAtomicRmwXor (order_in is) (number_in (tail_of is))) ∷
    (λ is. atomic.ArrayAtomicRmwXchg (order_in is) (number_in (tail_of is))) ∷
    (λ is. atomic.ArrayAtomicRmwCmpxchg (order_in is) (number_in (tail_of is))) ∷
    (λ is. atomic.RefI31Shared) ∷
    []

abbrev pub atomic_at : ℕ → List Immediate → AtomicOperator
atomic_at code is = get_or makers code (λ is. atomic.MemoryAtomicNotify (argument_in is)) is

pub atomic_by_opcode : (op : AtomicOperator) → atomic_at (atomic_subopcode op) (atomic_immediates op) ≡ op
atomic_by_opcode (atomic.MemoryAtomicNotify memarg) = refl
atomic_by_opcode op = refl

pub atomic_kinds : (op : AtomicOperator) → map kind_of (atomic_immediates op) ≡ map kind_of (atomic_immediates (atomic_at (atomic_subopcode op) []))
atomic_kinds (atomic.MemoryAtomicNotify memarg) = refl
atomic_kinds op = refl

pub atomic_named : (op : AtomicOperator) → atomic_name op ≡ atomic_name (atomic_at (atomic_subopcode op) [])
atomic_named (atomic.MemoryAtomicNotify memarg) = refl
atomic_named op = refl

abbrev of_fields : AtomicFields → List Immediate
of_fields (fields.Memarg memarg) = memory_argument kind.Plain 2 memarg ∷ []
of_fields (fields.Ordering ordering) = fence_order ordering ∷ []
of_fields (fields.OrderingGlobalIndex ordering global_index) = order ordering ∷ unsigned_32 global_index ∷ []
of_fields (fields.OrderingTableIndex ordering table_index) = order ordering ∷ unsigned_32 table_index ∷ []
of_fields (fields.OrderingStructTypeIndexFieldIndex ordering struct_type_index field_index) = order ordering ∷ unsigned_32 struct_type_index ∷ unsigned_32 field_index ∷ []
of_fields (fields.OrderingArrayTypeIndex ordering array_type_index) = order ordering ∷ unsigned_32 array_type_index ∷ []
of_fields fields.Bare = []

atomic_by_fields : (op : AtomicOperator) → atomic_at (atomic_subopcode op) (of_fields (atomic_fields op)) ≡ op
atomic_by_fields (atomic.MemoryAtomicNotify memarg) = refl
atomic_by_fields op = refl

pub atomic_same : (x y : AtomicOperator) → atomic_subopcode x ≡ atomic_subopcode y → atomic_fields x ≡ atomic_fields y → x ≡ y
atomic_same x y c f = sym (atomic_by_fields x) ∙ ap (λ z. atomic_at z (of_fields (atomic_fields x))) c ∙ ap (λ z. atomic_at (atomic_subopcode y) (of_fields z)) f ∙ atomic_by_fields y
