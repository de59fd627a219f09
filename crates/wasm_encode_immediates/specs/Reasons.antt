-- Why a value has no encoding.
-- Specification: Binary Format, Types and Instructions.
use Rattle.std.specs.Prelude.{◌≡◌, ◌≢◌, ℕ, ◌<◌, ◌≤◌, ◌^◌, ◌⊎◌, List, [], ◌∷◌, length, Some}
use Rattle.wasm_below.specs.declared.features.WasmFeatures.{WasmFeatures}
use Rattle.wasm_below.specs.declared.types.HeapType.{HeapType}
use Rattle.wasm_below.specs.Features.{HasFeature, multi_memory, memory64, call_indirect_overlong, acquire_release_atomics, multibyte_array_access}
use Rattle.wasm_below.specs.Reference.{FitsRefType}
use Rattle.wasm_imm.specs.declared.memory_argument.MemArg.{MemArg}
use Rattle.wasm_imm.specs.declared.memory_argument.MemArgTarget.TheVariants as target
use Rattle.wasm_imm.specs.declared.memory_argument.MemArgOrdering.{MemArgOrdering}
use Rattle.wasm_imm.specs.declared.memory_argument.MemArgOrdering.TheVariants as ordering
use Rattle.wasm_imm.specs.declared.memory_argument.MemArgKind.{MemArgKind}
use Rattle.wasm_imm.specs.declared.memory_argument.MemArgKind.TheVariants as kind
use Rattle.wasm_imm.specs.declared.ordering.Ordering.{Ordering}
use Rattle.wasm_imm.specs.declared.ordering.Ordering.TheVariants.{SeqCst}
use Rattle.wasm_imm.specs.declared.select.Select.{Select}
use Rattle.wasm_imm.specs.declared.select.Select.TheVariants as select
use Rattle.wasm_imm.specs.HandlerTables.{max_catches, max_handlers, max_select_types}
use Rattle.wasm_imm.specs.Immediate.{Immediate, memory_argument, memory_index, table_index_32, fence_order, heap_type, branch_table, select_types, try_clauses, resume_clauses}
use Rattle.wasm_encode_immediates.specs.declared.unwritable.Unwritable.{Unwritable}
use Rattle.wasm_encode_immediates.specs.declared.unwritable.Unwritable.TheVariants as why

-- An operator of this kind may have the ordering.
abbrev pub IsOfKind : MemArgKind → MemArgOrdering → Type 0
IsOfKind k (ordering.Op o) = k ≡ kind.Op
IsOfKind k (ordering.Rmw o) = k ≡ kind.Rmw

-- The memory argument needs this feature.
abbrev pub Needs : WasmFeatures → MemArg → Type 0
Needs g m = ((i : ℕ) × (m.target ≡ target.Memory i) × (i ≢ 0) × (g ≡ multi_memory)) ⊎ (((i : ℕ) × (m.target ≡ target.Array i) × (g ≡ multibyte_array_access)) ⊎
    (((o : MemArgOrdering) × (m.ordering ≡ Some o) × (g ≡ acquire_release_atomics)) ⊎ ((2 ^ 32 ≤ m.offset) × (g ≡ memory64))))

-- Why a memory argument has no encoding.
abbrev pub HasMemoryReason : WasmFeatures → MemArgKind → ℕ → MemArg → Unwritable → Type 0
HasMemoryReason f k max m (why.NeedsFeature g) = (¬ HasFeature g f) × Needs g m
HasMemoryReason f k max m why.Alignment = 15 < m.align
HasMemoryReason f k max m why.NaturalAlignment = m.max_align ≢ max
HasMemoryReason f k max m why.WrongOrdering = (o : MemArgOrdering) × (m.ordering ≡ Some o) × (¬ IsOfKind k o)
HasMemoryReason f k max m _ = ⊥

-- Why an index that is 0 without this feature has no encoding.
abbrev pub HasIndexReason : WasmFeatures → WasmFeatures → ℕ → Unwritable → Type 0
HasIndexReason feature f n e = (e ≡ why.NeedsFeature feature) × (n ≢ 0) × ¬ HasFeature feature f

-- A fence without the feature has an encoding only for `SeqCst`.
abbrev pub HasFenceReason : WasmFeatures → Ordering → Unwritable → Type 0
HasFenceReason f o e = (e ≡ why.NeedsFeature acquire_release_atomics) × (o ≢ SeqCst) × ¬ HasFeature acquire_release_atomics f

-- The type index is above the limit.
abbrev pub HasHeapReason : HeapType → Unwritable → Type 0
HasHeapReason t e = (e ≡ why.TypeIndex) × ¬ FitsRefType t

-- The list is longer than the limit.
abbrev pub HasCountReason : ℕ → ℕ → Unwritable → Type 0
HasCountReason limit count e = (e ≡ why.TooMany) × (limit < count)

-- This reason, or the vector cannot grow for the list.
abbrev pub OrOutOfMemory : (Unwritable → Type 0) → Unwritable → Type 0
OrOutOfMemory Why e = (e ≡ why.OutOfMemory) ⊎ Why e

-- Why the types of a `select` are not written: too many, or one as a list.
abbrev pub HasSelectReason : Select → Unwritable → Type 0
HasSelectReason (select.One _) e = ⊥
HasSelectReason (select.Multi tys) e = OrOutOfMemory (λ d. HasCountReason max_select_types (length tys) d ⊎ ((d ≡ why.SingleType) × (length tys ≡ 1))) e

-- Why an immediate has no encoding, or is not written.
abbrev pub HasReason : WasmFeatures → Immediate → Unwritable → Type 0
HasReason f (memory_argument k max m) e = HasMemoryReason f k max m e
HasReason f (memory_index n) e = HasIndexReason multi_memory f n e
HasReason f (table_index_32 n) e = HasIndexReason call_indirect_overlong f n e
HasReason f (fence_order o) e = HasFenceReason f o e
HasReason f (heap_type t) e = HasHeapReason t e
HasReason f (branch_table t) e = e ≡ why.OutOfMemory
HasReason f (select_types types) e = HasSelectReason types e
HasReason f (try_clauses t) e = OrOutOfMemory (HasCountReason max_catches (length t.catches)) e
HasReason f (resume_clauses t) e = OrOutOfMemory (HasCountReason max_handlers (length t.handlers)) e
HasReason f _ e = ⊥

-- One of the immediates has this reason.
abbrev pub HaveReason : WasmFeatures → List Immediate → Unwritable → Type 0
HaveReason f [] e = ⊥
HaveReason f (i ∷ is) e = HasReason f i e ⊎ HaveReason f is e

-- One of the immediates is a list. For it the vector may have to grow.
abbrev pub HoldList : List Immediate → Type 0
HoldList [] = ⊥
HoldList (branch_table _ ∷ is) = Unit {0}
HoldList (select_types (select.Multi _) ∷ is) = Unit {0}
HoldList (try_clauses _ ∷ is) = Unit {0}
HoldList (resume_clauses _ ∷ is) = Unit {0}
HoldList (_ ∷ is) = HoldList is
