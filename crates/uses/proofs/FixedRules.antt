-- The rule of an operator that determines its types takes and leaves as many operands as its signature.
use Rattle.std.proofs.Common.{◌≡◌, Bool, true, false, List, [], ◌∷◌, map, length, Option, Some, None, refl, sym, subst, ◌∙◌}
use Rattle.std.proofs.lemmas.List.{length-map, length-reverse}
use Rattle.wasm_operators.specs.imm.declared.memory_argument.MemArg.{MemArg}
use Rattle.wasm_operators.specs.imm.declared.memory_argument.MemArgTarget.{MemArgTarget}
use Rattle.wasm_operators.specs.imm.declared.memory_argument.MemArgTarget.TheVariants as target
use Rattle.wasm_operators.specs.grammar.Role.{plain}
use Rattle.wasm_operators.specs.instr.declared.operator.Operator.{Operator}
use Rattle.wasm_operators.specs.instr.declared.operator.Operator.TheVariants as operator
use Rattle.wasm_operators.specs.instr.Roles.{role_of}
use Rattle.wasm_operators.specs.instr_ops.declared.gc.GcOperator.{GcOperator}
use Rattle.wasm_operators.specs.instr_ops.declared.gc.GcOperator.TheVariants as gc
use Rattle.wasm_operators.specs.instr_ops.declared.misc.MiscOperator.{MiscOperator}
use Rattle.wasm_operators.specs.instr_ops.declared.misc.MiscOperator.TheVariants as misc
use Rattle.wasm_signatures.specs.Gc.{gc_typing}
use Rattle.wasm_signatures.specs.Misc.{misc_typing}
use Rattle.wasm_signatures.specs.Own.{operator_typing}
use Rattle.wasm_signatures.specs.Premises.{argument_of}
use Rattle.wasm_signatures.specs.Types.{InstructionType, OperatorTyping, value_of}
use Rattle.wasm_signatures.specs.Types.{fixed as determined}
use Rattle.wasm_signatures.specs.declared.operand_type.OperandType.{OperandType}
use Rattle.wasm_typing.specs.Types.{Stack, value_type}
use Rattle.wasm_typing.specs.Rules.{Rule, fixed, invalid, or_invalid}
use Rattle.wasm_check_control.specs.Environment.{Environment}
use Rattle.wasm_check_operators.specs.Casts.{gc_rule}
use Rattle.wasm_check_operators.specs.Forms.{only_if, address, address_value, typed, fixed_at, by_typing, access, by_argument, has_lanes, is_valid_argument, is_atomic_argument, atomic_access, is_ordered}
use Rattle.wasm_check_operators.specs.Language.{rule, misc_rule}

-- The rule takes and leaves as many operands as the type, or is `invalid`.
abbrev pub HasCounts : Rule → InstructionType → Type 0
HasCounts (fixed takes leaves) f = (length takes ≡ length f.takes) × (length leaves ≡ length f.leaves)
HasCounts invalid f = Unit {0}
HasCounts _ f = ⊥

length_typed : (is_64 : Bool) (types : List OperandType) → length (typed is_64 types) ≡ length types
length_typed is_64 types =
    length-reverse (map (λ t. value_type (value_of (address_value is_64) t)) types) ∙ length-map types (λ t. value_type (value_of (address_value is_64) t))

counts_at : (is_64 : Bool) (f : InstructionType) → HasCounts (fixed_at is_64 f) f
counts_at is_64 f = (length_typed is_64 f.takes, length_typed is_64 f.leaves)

counts_if : (test : Bool) (r : Rule) (f : InstructionType) → HasCounts r f → HasCounts (only_if test r) f
counts_if true r f h = h
counts_if false r f h = tt

counts_or : {A : Type 0} (g : A → Rule) (o : Option A) (f : InstructionType) → ((a : A) → HasCounts (g a) f) → HasCounts (or_invalid g o) f
counts_or g None f h = tt
counts_or g (Some a) f h = h a

counts_typing : (is_64 : Bool) (t : OperatorTyping) (f : InstructionType) → t ≡ determined f → HasCounts (by_typing (fixed_at is_64) t) f
counts_typing is_64 t f is = subst (λ z. HasCounts (by_typing (fixed_at is_64) z) f) (sym is) (counts_at is_64 f)

counts_access : (E : Environment) (to : MemArgTarget) (m : MemArg) (t : OperatorTyping) (f : InstructionType) → t ≡ determined f → HasCounts (access E to m t) f
counts_access E (target.Memory x) m t f is =
    counts_or (λ (is_64 : Bool). only_if (is_valid_argument m is_64) (by_typing (fixed_at is_64) t)) (E.memories x) f
    (λ is_64. counts_if (is_valid_argument m is_64) (by_typing (fixed_at is_64) t) f (counts_typing is_64 t f is))
counts_access E (target.Array x) m t f is = tt

counts_argument : (E : Environment) (o : Option MemArg) (t : OperatorTyping) (f : InstructionType) → t ≡ determined f → HasCounts (by_argument E o t) f
counts_argument E None t f is = counts_typing false t f is
counts_argument E (Some m) t f is = counts_access E m.target m t f is

counts_atomic : (E : Environment) (o : Option MemArg) (t : OperatorTyping) (f : InstructionType) → t ≡ determined f → HasCounts (atomic_access E o t) f
counts_atomic E None t f is = counts_typing false t f is
counts_atomic E (Some m) t f is = counts_if (is_atomic_argument m) (access E m.target m t) f (counts_access E m.target m t f is)

-- The instruction type that an operator determines.
abbrev type_in : OperatorTyping → InstructionType
type_in (determined f) = f
type_in _ = record { takes = []; leaves = [] }

counts_misc : (E : Environment) (op : MiscOperator) (f : InstructionType) → misc_typing op ≡ determined f → HasCounts (misc_rule E op) f
counts_misc E (misc.MemoryFill x) f is =
    counts_or (λ (a : Bool). by_typing (fixed_at a) (misc_typing (misc.MemoryFill x))) (E.memories x) f (λ a. counts_typing a (misc_typing (misc.MemoryFill x)) f is)
counts_misc E (misc.MemoryInit y x) f is = absurd (cc is)
counts_misc E (misc.MemoryCopy x y) f is = absurd (cc is)
counts_misc E (misc.DataDrop y) f is = absurd (cc is)
counts_misc E (misc.TableInit y x) f is = absurd (cc is)
counts_misc E (misc.ElemDrop y) f is = absurd (cc is)
counts_misc E (misc.TableCopy x y) f is = absurd (cc is)
counts_misc E (misc.TableFill x) f is = absurd (cc is)
counts_misc E (misc.TableGrow x) f is = absurd (cc is)
counts_misc E (misc.TableSize x) f is = absurd (cc is)
counts_misc E op f is = counts_typing false (misc_typing op) f is

counts_gc : (E : Environment) (labels : List Stack) (op : GcOperator) (f : InstructionType) → gc_typing op ≡ determined f → HasCounts (gc_rule E labels op) f
counts_gc E labels gc.ArrayLen f is = counts_typing false (gc_typing gc.ArrayLen) f is
counts_gc E labels gc.RefI31 f is = counts_typing false (gc_typing gc.RefI31) f is
counts_gc E labels gc.I31GetS f is = counts_typing false (gc_typing gc.I31GetS) f is
counts_gc E labels gc.I31GetU f is = counts_typing false (gc_typing gc.I31GetU) f is
counts_gc E labels op f is = absurd (cc is)

pub counts : (E : Environment) (labels : List Stack) (op : Operator) (f : InstructionType) → operator_typing op ≡ determined f → HasCounts (rule E labels op) f
counts E labels (operator.I32Load m) f is = counts_access E m.target m (operator_typing (operator.I32Load m)) f is
counts E labels (operator.I64Load m) f is = counts_access E m.target m (operator_typing (operator.I64Load m)) f is
counts E labels (operator.F32Load m) f is = counts_access E m.target m (operator_typing (operator.F32Load m)) f is
counts E labels (operator.F64Load m) f is = counts_access E m.target m (operator_typing (operator.F64Load m)) f is
counts E labels (operator.I32Load8S m) f is = counts_access E m.target m (operator_typing (operator.I32Load8S m)) f is
counts E labels (operator.I32Load8U m) f is = counts_access E m.target m (operator_typing (operator.I32Load8U m)) f is
counts E labels (operator.I32Load16S m) f is = counts_access E m.target m (operator_typing (operator.I32Load16S m)) f is
counts E labels (operator.I32Load16U m) f is = counts_access E m.target m (operator_typing (operator.I32Load16U m)) f is
counts E labels (operator.I64Load8S m) f is = counts_access E m.target m (operator_typing (operator.I64Load8S m)) f is
counts E labels (operator.I64Load8U m) f is = counts_access E m.target m (operator_typing (operator.I64Load8U m)) f is
counts E labels (operator.I64Load16S m) f is = counts_access E m.target m (operator_typing (operator.I64Load16S m)) f is
counts E labels (operator.I64Load16U m) f is = counts_access E m.target m (operator_typing (operator.I64Load16U m)) f is
counts E labels (operator.I64Load32S m) f is = counts_access E m.target m (operator_typing (operator.I64Load32S m)) f is
counts E labels (operator.I64Load32U m) f is = counts_access E m.target m (operator_typing (operator.I64Load32U m)) f is
counts E labels (operator.I32Store m) f is = counts_access E m.target m (operator_typing (operator.I32Store m)) f is
counts E labels (operator.I64Store m) f is = counts_access E m.target m (operator_typing (operator.I64Store m)) f is
counts E labels (operator.F32Store m) f is = counts_access E m.target m (operator_typing (operator.F32Store m)) f is
counts E labels (operator.F64Store m) f is = counts_access E m.target m (operator_typing (operator.F64Store m)) f is
counts E labels (operator.I32Store8 m) f is = counts_access E m.target m (operator_typing (operator.I32Store8 m)) f is
counts E labels (operator.I32Store16 m) f is = counts_access E m.target m (operator_typing (operator.I32Store16 m)) f is
counts E labels (operator.I64Store8 m) f is = counts_access E m.target m (operator_typing (operator.I64Store8 m)) f is
counts E labels (operator.I64Store16 m) f is = counts_access E m.target m (operator_typing (operator.I64Store16 m)) f is
counts E labels (operator.I64Store32 m) f is = counts_access E m.target m (operator_typing (operator.I64Store32 m)) f is
counts E labels (operator.MemorySize x) f is =
    counts_or (λ (a : Bool). fixed [] (address a ∷ [])) (E.memories x) f (λ a. subst (λ z. HasCounts (fixed [] (address a ∷ [])) (type_in z)) is (refl, refl))
counts E labels (operator.MemoryGrow x) f is =
    counts_or (λ (a : Bool). fixed (address a ∷ []) (address a ∷ [])) (E.memories x) f (λ a. subst (λ z. HasCounts (fixed (address a ∷ []) (address a ∷ [])) (type_in z)) is (refl, refl))
counts E labels operator.Nop f is = counts_typing false (operator_typing operator.Nop) f is
counts E labels (operator.I32Const c) f is = counts_typing false (operator_typing (operator.I32Const c)) f is
counts E labels (operator.I64Const c) f is = counts_typing false (operator_typing (operator.I64Const c)) f is
counts E labels (operator.F32Const c) f is = counts_typing false (operator_typing (operator.F32Const c)) f is
counts E labels (operator.F64Const c) f is = counts_typing false (operator_typing (operator.F64Const c)) f is
counts E labels operator.RefEq f is = counts_typing false (operator_typing operator.RefEq) f is
counts E labels (operator.Numeric op) f is = counts_typing false (operator_typing (operator.Numeric op)) f is
counts E labels (operator.Misc op) f is = counts_misc E op f is
counts E labels (operator.Gc op) f is = counts_gc E labels op f is
counts E labels (operator.Simd op) f is =
    counts_if (has_lanes op) (by_argument E (argument_of (operator.Simd op)) (operator_typing (operator.Simd op))) f
    (counts_argument E (argument_of (operator.Simd op)) (operator_typing (operator.Simd op)) f is)
counts E labels (operator.Atomic op) f is =
    counts_if (is_ordered op) (atomic_access E (argument_of (operator.Atomic op)) (operator_typing (operator.Atomic op))) f
    (counts_atomic E (argument_of (operator.Atomic op)) (operator_typing (operator.Atomic op)) f is)
counts E labels op f is = absurd (cc is)

pub is_plain : (op : Operator) (f : InstructionType) → operator_typing op ≡ determined f → role_of op ≡ plain op
is_plain (operator.Block it) f is = absurd (cc is)
is_plain (operator.Loop it) f is = absurd (cc is)
is_plain (operator.TryTable it) f is = absurd (cc is)
is_plain (operator.If it) f is = absurd (cc is)
is_plain (operator.Try it) f is = absurd (cc is)
is_plain operator.Else f is = absurd (cc is)
is_plain (operator.Catch it) f is = absurd (cc is)
is_plain operator.CatchAll f is = absurd (cc is)
is_plain (operator.Delegate it) f is = absurd (cc is)
is_plain operator.End f is = absurd (cc is)
is_plain op f is = refl
