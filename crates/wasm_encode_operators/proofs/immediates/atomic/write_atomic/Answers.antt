-- Written by tools/lists.py from tools/operators.tsv.
use Rattle.std.proofs.Common.{◌≡◌, [], ◌∷◌, ap, inl, inr}
use Rattle.wasm_imm.specs.declared.memory_argument.MemArgKind.TheVariants as kind
use Rattle.wasm_imm.specs.Immediate.{unsigned_32, memory_argument, order}
use Rattle.wasm_instr_ops.specs.Atomic.{atomic_immediates}
use Rattle.wasm_encode_operators.proofs.Arms.{listed_as}
use Rattle.wasm_encode_operators.proofs.immediates.atomic.write_atomic.Goals as goal

pub returns-in-MemoryAtomicNotify : goal.returns-in-MemoryAtomicNotify
returns-in-MemoryAtomicNotify c =
    let e : atomic_immediates c.args.op ≡ memory_argument kind.Plain 2 c.in-MemoryAtomicNotify.a ∷ [] = elim c.in-MemoryAtomicNotify.is [ inl h ↦ ap atomic_immediates h | inr m ↦ ap atomic_immediates m ] in
    listed_as c.args.features (atomic_immediates c.args.op) (memory_argument kind.Plain 2 c.in-MemoryAtomicNotify.a ∷ []) c.write-in-MemoryAtomicNotify.result c.args.out.now c.write-in-MemoryAtomicNotify.new.out e c.write-in-MemoryAtomicNotify.ensures.written

pub returns-in-MemoryAtomicWait64 : goal.returns-in-MemoryAtomicWait64
returns-in-MemoryAtomicWait64 c =
    let e : atomic_immediates c.args.op ≡ memory_argument kind.Plain 3 c.in-MemoryAtomicWait64.a ∷ [] = ap atomic_immediates c.in-MemoryAtomicWait64.is in
    listed_as c.args.features (atomic_immediates c.args.op) (memory_argument kind.Plain 3 c.in-MemoryAtomicWait64.a ∷ []) c.write.result c.args.out.now c.write.new.out e c.write.ensures.written

pub returns-in-I32AtomicLoad : goal.returns-in-I32AtomicLoad
returns-in-I32AtomicLoad c =
    let e : atomic_immediates c.args.op ≡ memory_argument kind.Op 2 c.in-I32AtomicLoad.a ∷ [] = elim c.in-I32AtomicLoad.is [ inl h ↦ ap atomic_immediates h | inr m ↦ elim m [ inl h ↦ ap atomic_immediates h | inr m ↦ elim m [ inl h ↦ ap atomic_immediates h | inr m ↦ ap atomic_immediates m ] ] ] in
    listed_as c.args.features (atomic_immediates c.args.op) (memory_argument kind.Op 2 c.in-I32AtomicLoad.a ∷ []) c.write-in-I32AtomicLoad.result c.args.out.now c.write-in-I32AtomicLoad.new.out e c.write-in-I32AtomicLoad.ensures.written

pub returns-in-I64AtomicLoad : goal.returns-in-I64AtomicLoad
returns-in-I64AtomicLoad c =
    let e : atomic_immediates c.args.op ≡ memory_argument kind.Op 3 c.in-I64AtomicLoad.a ∷ [] = elim c.in-I64AtomicLoad.is [ inl h ↦ ap atomic_immediates h | inr m ↦ ap atomic_immediates m ] in
    listed_as c.args.features (atomic_immediates c.args.op) (memory_argument kind.Op 3 c.in-I64AtomicLoad.a ∷ []) c.write-in-I64AtomicLoad.result c.args.out.now c.write-in-I64AtomicLoad.new.out e c.write-in-I64AtomicLoad.ensures.written

pub returns-in-I32AtomicLoad8U : goal.returns-in-I32AtomicLoad8U
returns-in-I32AtomicLoad8U c =
    let e : atomic_immediates c.args.op ≡ memory_argument kind.Op 0 c.in-I32AtomicLoad8U.a ∷ [] = elim c.in-I32AtomicLoad8U.is [ inl h ↦ ap atomic_immediates h | inr m ↦ elim m [ inl h ↦ ap atomic_immediates h | inr m ↦ elim m [ inl h ↦ ap atomic_immediates h | inr m ↦ ap atomic_immediates m ] ] ] in
    listed_as c.args.features (atomic_immediates c.args.op) (memory_argument kind.Op 0 c.in-I32AtomicLoad8U.a ∷ []) c.write-in-I32AtomicLoad8U.result c.args.out.now c.write-in-I32AtomicLoad8U.new.out e c.write-in-I32AtomicLoad8U.ensures.written

pub returns-in-I32AtomicLoad16U : goal.returns-in-I32AtomicLoad16U
returns-in-I32AtomicLoad16U c =
    let e : atomic_immediates c.args.op ≡ memory_argument kind.Op 1 c.in-I32AtomicLoad16U.a ∷ [] = elim c.in-I32AtomicLoad16U.is [ inl h ↦ ap atomic_immediates h | inr m ↦ elim m [ inl h ↦ ap atomic_immediates h | inr m ↦ elim m [ inl h ↦ ap atomic_immediates h | inr m ↦ ap atomic_immediates m ] ] ] in
    listed_as c.args.features (atomic_immediates c.args.op) (memory_argument kind.Op 1 c.in-I32AtomicLoad16U.a ∷ []) c.write-in-I32AtomicLoad16U.result c.args.out.now c.write-in-I32AtomicLoad16U.new.out e c.write-in-I32AtomicLoad16U.ensures.written

pub returns-in-I32AtomicRmwAdd : goal.returns-in-I32AtomicRmwAdd
returns-in-I32AtomicRmwAdd c =
    let e : atomic_immediates c.args.op ≡ memory_argument kind.Rmw 2 c.in-I32AtomicRmwAdd.a ∷ [] = elim c.in-I32AtomicRmwAdd.is [ inl h ↦ ap atomic_immediates h | inr m ↦ elim m [ inl h ↦ ap atomic_immediates h | inr m ↦ elim m [ inl h ↦ ap atomic_immediates h | inr m ↦ elim m [ inl h ↦ ap atomic_immediates h | inr m ↦ elim m [ inl h ↦ ap atomic_immediates h | inr m ↦ elim m [ inl h ↦ ap atomic_immediates h | inr m ↦ elim m [ inl h ↦ ap atomic_immediates h | inr m ↦ elim m [ inl h ↦ ap atomic_immediates h | inr m ↦ elim m [ inl h ↦ ap atomic_immediates h | inr m ↦ elim m [ inl h ↦ ap atomic_immediates h | inr m ↦ elim m [ inl h ↦ ap atomic_immediates h | inr m ↦ elim m [ inl h ↦ ap atomic_immediates h | inr m ↦ elim m [ inl h ↦ ap atomic_immediates h | inr m ↦ ap atomic_immediates m ] ] ] ] ] ] ] ] ] ] ] ] ] in
    listed_as c.args.features (atomic_immediates c.args.op) (memory_argument kind.Rmw 2 c.in-I32AtomicRmwAdd.a ∷ []) c.write-in-I32AtomicRmwAdd.result c.args.out.now c.write-in-I32AtomicRmwAdd.new.out e c.write-in-I32AtomicRmwAdd.ensures.written

pub returns-in-I64AtomicRmwAdd : goal.returns-in-I64AtomicRmwAdd
returns-in-I64AtomicRmwAdd c =
    let e : atomic_immediates c.args.op ≡ memory_argument kind.Rmw 3 c.in-I64AtomicRmwAdd.a ∷ [] = elim c.in-I64AtomicRmwAdd.is [ inl h ↦ ap atomic_immediates h | inr m ↦ elim m [ inl h ↦ ap atomic_immediates h | inr m ↦ elim m [ inl h ↦ ap atomic_immediates h | inr m ↦ elim m [ inl h ↦ ap atomic_immediates h | inr m ↦ elim m [ inl h ↦ ap atomic_immediates h | inr m ↦ elim m [ inl h ↦ ap atomic_immediates h | inr m ↦ ap atomic_immediates m ] ] ] ] ] ] in
    listed_as c.args.features (atomic_immediates c.args.op) (memory_argument kind.Rmw 3 c.in-I64AtomicRmwAdd.a ∷ []) c.write-in-I64AtomicRmwAdd.result c.args.out.now c.write-in-I64AtomicRmwAdd.new.out e c.write-in-I64AtomicRmwAdd.ensures.written

pub returns-in-I32AtomicRmw8AddU : goal.returns-in-I32AtomicRmw8AddU
returns-in-I32AtomicRmw8AddU c =
    let e : atomic_immediates c.args.op ≡ memory_argument kind.Rmw 0 c.in-I32AtomicRmw8AddU.a ∷ [] = elim c.in-I32AtomicRmw8AddU.is [ inl h ↦ ap atomic_immediates h | inr m ↦ elim m [ inl h ↦ ap atomic_immediates h | inr m ↦ elim m [ inl h ↦ ap atomic_immediates h | inr m ↦ elim m [ inl h ↦ ap atomic_immediates h | inr m ↦ elim m [ inl h ↦ ap atomic_immediates h | inr m ↦ elim m [ inl h ↦ ap atomic_immediates h | inr m ↦ elim m [ inl h ↦ ap atomic_immediates h | inr m ↦ elim m [ inl h ↦ ap atomic_immediates h | inr m ↦ elim m [ inl h ↦ ap atomic_immediates h | inr m ↦ elim m [ inl h ↦ ap atomic_immediates h | inr m ↦ elim m [ inl h ↦ ap atomic_immediates h | inr m ↦ elim m [ inl h ↦ ap atomic_immediates h | inr m ↦ elim m [ inl h ↦ ap atomic_immediates h | inr m ↦ ap atomic_immediates m ] ] ] ] ] ] ] ] ] ] ] ] ] in
    listed_as c.args.features (atomic_immediates c.args.op) (memory_argument kind.Rmw 0 c.in-I32AtomicRmw8AddU.a ∷ []) c.write-in-I32AtomicRmw8AddU.result c.args.out.now c.write-in-I32AtomicRmw8AddU.new.out e c.write-in-I32AtomicRmw8AddU.ensures.written

pub returns-in-I32AtomicRmw16AddU : goal.returns-in-I32AtomicRmw16AddU
returns-in-I32AtomicRmw16AddU c =
    let e : atomic_immediates c.args.op ≡ memory_argument kind.Rmw 1 c.in-I32AtomicRmw16AddU.a ∷ [] = elim c.in-I32AtomicRmw16AddU.is [ inl h ↦ ap atomic_immediates h | inr m ↦ elim m [ inl h ↦ ap atomic_immediates h | inr m ↦ elim m [ inl h ↦ ap atomic_immediates h | inr m ↦ elim m [ inl h ↦ ap atomic_immediates h | inr m ↦ elim m [ inl h ↦ ap atomic_immediates h | inr m ↦ elim m [ inl h ↦ ap atomic_immediates h | inr m ↦ elim m [ inl h ↦ ap atomic_immediates h | inr m ↦ elim m [ inl h ↦ ap atomic_immediates h | inr m ↦ elim m [ inl h ↦ ap atomic_immediates h | inr m ↦ elim m [ inl h ↦ ap atomic_immediates h | inr m ↦ elim m [ inl h ↦ ap atomic_immediates h | inr m ↦ elim m [ inl h ↦ ap atomic_immediates h | inr m ↦ elim m [ inl h ↦ ap atomic_immediates h | inr m ↦ ap atomic_immediates m ] ] ] ] ] ] ] ] ] ] ] ] ] in
    listed_as c.args.features (atomic_immediates c.args.op) (memory_argument kind.Rmw 1 c.in-I32AtomicRmw16AddU.a ∷ []) c.write-in-I32AtomicRmw16AddU.result c.args.out.now c.write-in-I32AtomicRmw16AddU.new.out e c.write-in-I32AtomicRmw16AddU.ensures.written

pub returns-in-GlobalAtomicGet : goal.returns-in-GlobalAtomicGet
returns-in-GlobalAtomicGet c =
    let e : atomic_immediates c.args.op ≡ order c.in-GlobalAtomicGet.a ∷ unsigned_32 c.in-GlobalAtomicGet.b ∷ [] = elim c.in-GlobalAtomicGet.is [ inl h ↦ ap atomic_immediates h | inr m ↦ elim m [ inl h ↦ ap atomic_immediates h | inr m ↦ elim m [ inl h ↦ ap atomic_immediates h | inr m ↦ elim m [ inl h ↦ ap atomic_immediates h | inr m ↦ elim m [ inl h ↦ ap atomic_immediates h | inr m ↦ elim m [ inl h ↦ ap atomic_immediates h | inr m ↦ elim m [ inl h ↦ ap atomic_immediates h | inr m ↦ elim m [ inl h ↦ ap atomic_immediates h | inr m ↦ elim m [ inl h ↦ ap atomic_immediates h | inr m ↦ elim m [ inl h ↦ ap atomic_immediates h | inr m ↦ elim m [ inl h ↦ ap atomic_immediates h | inr m ↦ elim m [ inl h ↦ ap atomic_immediates h | inr m ↦ elim m [ inl h ↦ ap atomic_immediates h | inr m ↦ elim m [ inl h ↦ ap atomic_immediates h | inr m ↦ elim m [ inl h ↦ ap atomic_immediates h | inr m ↦ elim m [ inl h ↦ ap atomic_immediates h | inr m ↦ elim m [ inl h ↦ ap atomic_immediates h | inr m ↦ elim m [ inl h ↦ ap atomic_immediates h | inr m ↦ elim m [ inl h ↦ ap atomic_immediates h | inr m ↦ elim m [ inl h ↦ ap atomic_immediates h | inr m ↦ elim m [ inl h ↦ ap atomic_immediates h | inr m ↦ elim m [ inl h ↦ ap atomic_immediates h | inr m ↦ elim m [ inl h ↦ ap atomic_immediates h | inr m ↦ ap atomic_immediates m ] ] ] ] ] ] ] ] ] ] ] ] ] ] ] ] ] ] ] ] ] ] ] in
    listed_as c.args.features (atomic_immediates c.args.op) (order c.in-GlobalAtomicGet.a ∷ unsigned_32 c.in-GlobalAtomicGet.b ∷ []) c.write-in-GlobalAtomicGet.result c.args.out.now c.write-in-GlobalAtomicGet.new.out e c.write-in-GlobalAtomicGet.ensures.written

pub returns-in-StructAtomicGet : goal.returns-in-StructAtomicGet
returns-in-StructAtomicGet c =
    let e : atomic_immediates c.args.op ≡ order c.in-StructAtomicGet.a ∷ unsigned_32 c.in-StructAtomicGet.b ∷ unsigned_32 c.in-StructAtomicGet.c ∷ [] = elim c.in-StructAtomicGet.is [ inl h ↦ ap atomic_immediates h | inr m ↦ elim m [ inl h ↦ ap atomic_immediates h | inr m ↦ elim m [ inl h ↦ ap atomic_immediates h | inr m ↦ elim m [ inl h ↦ ap atomic_immediates h | inr m ↦ elim m [ inl h ↦ ap atomic_immediates h | inr m ↦ elim m [ inl h ↦ ap atomic_immediates h | inr m ↦ elim m [ inl h ↦ ap atomic_immediates h | inr m ↦ elim m [ inl h ↦ ap atomic_immediates h | inr m ↦ elim m [ inl h ↦ ap atomic_immediates h | inr m ↦ elim m [ inl h ↦ ap atomic_immediates h | inr m ↦ ap atomic_immediates m ] ] ] ] ] ] ] ] ] ] in
    listed_as c.args.features (atomic_immediates c.args.op) (order c.in-StructAtomicGet.a ∷ unsigned_32 c.in-StructAtomicGet.b ∷ unsigned_32 c.in-StructAtomicGet.c ∷ []) c.write-in-StructAtomicGet.result c.args.out.now c.write-in-StructAtomicGet.new.out e c.write-in-StructAtomicGet.ensures.written
