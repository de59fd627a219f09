-- Words of the rules: premises about immediates, and types that an operator determines.
-- WebAssembly Core Specification 3.0: Validation, Types and Instructions.
use Rattle.std.specs.Prelude.{ℕ, Bool, true, false, if◌then◌else◌, List, [], ◌∷◌, map, reverse, Option, Some, None, is_none, nat_le, nat_lt, nat_eq, ◌^◌}
use Rattle.wasm_below.specs.Reference.{Reference}
use Rattle.wasm_below.specs.declared.types.AbstractHeapType.TheVariants as ty
use Rattle.wasm_below.specs.declared.types.HeapType.{HeapType}
use Rattle.wasm_below.specs.declared.types.HeapType.TheVariants as heap_type
use Rattle.wasm_below.specs.declared.types.ValType.{ValType}
use Rattle.wasm_below.specs.declared.types.ValType.TheVariants as value
use Rattle.wasm_imm.specs.declared.memory_argument.MemArg.{MemArg}
use Rattle.wasm_imm.specs.declared.memory_argument.MemArgTarget.{MemArgTarget}
use Rattle.wasm_imm.specs.declared.memory_argument.MemArgTarget.TheVariants as target
use Rattle.wasm_imm.specs.declared.ordering.Ordering.{Ordering}
use Rattle.wasm_imm.specs.declared.ordering.Ordering.TheVariants as ordering
use Rattle.wasm_instr_ops.specs.declared.atomic.AtomicOperator.{AtomicOperator}
use Rattle.wasm_instr_ops.specs.declared.atomic.AtomicOperator.TheVariants as atomic
use Rattle.wasm_instr_simd.specs.declared.simd.SimdOperator.{SimdOperator}
use Rattle.wasm_instr_simd.specs.declared.simd.SimdOperator.TheVariants as simd
use Rattle.wasm_signatures.specs.Premises.{lane_of}
use Rattle.wasm_signatures.specs.Types.{InstructionType, OperatorTyping, value_of}
use Rattle.wasm_signatures.specs.Types.{fixed as determined}
use Rattle.wasm_signatures.specs.declared.operand_type.OperandType.{OperandType}
use Rattle.wasm_typing.specs.declared.value_type.ValueType.{ValueType}
use Rattle.wasm_typing.specs.declared.value_type.ValueType.TheVariants.{I32, I64, Ref}
use Rattle.wasm_typing.specs.declared.value_type.Heap.TheVariants.{Known}
use Rattle.wasm_typing.specs.Types.{Stack, value_type}
use Rattle.wasm_typing.specs.Matching.{TypeOrder, CompositeKind, abstract}
use Rattle.wasm_typing.specs.Rules.{Rule, fixed, invalid, or_invalid}
use Rattle.wasm_check_control.specs.Environment.{Environment}

abbrev pub has_kind : Option CompositeKind → Bool
has_kind None = false
has_kind (Some k) = true

-- Types that the standard does not have are never valid: shared and exact types, and continuations.
abbrev pub is_valid_heap : TypeOrder → HeapType → Bool
is_valid_heap O (heap_type.Abstract true t) = false
is_valid_heap O (heap_type.Abstract false ty.Cont) = false
is_valid_heap O (heap_type.Abstract false ty.NoCont) = false
is_valid_heap O (heap_type.Abstract false t) = true
is_valid_heap O (heap_type.Concrete i) = has_kind (O.kind i)
is_valid_heap O (heap_type.Exact i) = false

-- Section Types, Value Types. Bot is valid.
abbrev pub is_valid : TypeOrder → ValueType → Bool
is_valid O (Ref n (Known h)) = is_valid_heap O h
is_valid O v = true

abbrev pub only_if : Bool → Rule → Rule
only_if test r = if test then r else invalid

-- The type of addresses, or of indices.
abbrev pub address : Bool → ValueType
address true = I64
address false = I32

abbrev pub reference : Reference → ValueType
reference r = value_type (value.Ref r)

abbrev pub func_ref : ValueType
func_ref = Ref true (abstract false ty.Func)

abbrev pub exception : ValueType
exception = Ref true (abstract false ty.Exn)

abbrev pub address_value : Bool → ValType
address_value true = value.I64
address_value false = value.I32

-- The operands of these types, of which the last is on top of the stack. Addresses are i64 or i32.
abbrev pub typed : Bool → List OperandType → Stack
typed is_64 types = reverse (map (λ t. value_type (value_of (address_value is_64) t)) types)

abbrev pub fixed_at : Bool → InstructionType → Rule
fixed_at is_64 f = fixed (typed is_64 f.takes) (typed is_64 f.leaves)

-- Section Memory Instructions: the alignment is at most the operator's, and the offset is an address.
abbrev pub is_valid_argument : MemArg → Bool → Bool
is_valid_argument m is_64 = if nat_le m.align m.max_align then (if is_64 then true else nat_lt m.offset (2 ^ 32)) else false

abbrev pub by_typing : (InstructionType → Rule) → OperatorTyping → Rule
by_typing r (determined f) = r f
by_typing r _ = invalid

-- The operator determines its types.
abbrev pub IsFixed : OperatorTyping → Type 0
IsFixed (determined f) = Unit {0}
IsFixed _ = ⊥

-- A load or a store with this typing.
abbrev pub access : Environment → MemArgTarget → MemArg → OperatorTyping → Rule
access E (target.Memory x) m t = or_invalid (λ (is_64 : Bool). only_if (is_valid_argument m is_64) (by_typing (fixed_at is_64) t)) (E.memories x)
access E (target.Array x) m t = invalid

-- An operator with this typing, with a memory if it has a memory argument.
abbrev pub by_argument : Environment → Option MemArg → OperatorTyping → Rule
by_argument E None t = by_typing (fixed_at false) t
by_argument E (Some m) t = access E m.target m t

abbrev pub is_lane : Option (ℕ × ℕ) → Bool
is_lane None = true
is_lane (Some p) = nat_lt p.0 p.1

abbrev pub are_below : ℕ → List ℕ → Bool
are_below n [] = true
are_below n (lane ∷ lanes) = if nat_lt lane n then are_below n lanes else false

abbrev pub shuffled : SimdOperator → List ℕ
shuffled (simd.I8x16Shuffle lanes) = lanes
shuffled _ = []

-- Section Vector Instructions: a lane index is below the number of lanes. A shuffle has the lanes of
-- two vectors.
abbrev pub has_lanes : SimdOperator → Bool
has_lanes op = if is_lane (lane_of op) then are_below 32 (shuffled op) else false

-- Proposal threads: the alignment is the operator's. An ordering belongs to another proposal.
abbrev pub is_atomic_argument : MemArg → Bool
is_atomic_argument m = if nat_eq m.align m.max_align then is_none m.ordering else false

abbrev pub atomic_access : Environment → Option MemArg → OperatorTyping → Rule
atomic_access E None t = by_typing (fixed_at false) t
atomic_access E (Some m) t = only_if (is_atomic_argument m) (access E m.target m t)

abbrev pub is_sequential : Ordering → Bool
is_sequential ordering.SeqCst = true
is_sequential ordering.AcqRel = false

-- Proposal threads: a fence has the ordering SeqCst.
abbrev pub is_ordered : AtomicOperator → Bool
is_ordered (atomic.AtomicFence o) = is_sequential o
is_ordered _ = true
