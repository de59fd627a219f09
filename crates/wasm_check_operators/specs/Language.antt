-- The rule of each operator. WebAssembly Core Specification 3.0: Validation, Instructions.
-- Operators without a clause have no rule here.
use Rattle.std.specs.Prelude.{◌≡◌, ℕ, Bool, true, false, if◌then◌else◌, List, [], ◌∷◌, Option, Some, None, Result, IfOk}
use Rattle.wasm_below.specs.Reference.{Reference}
use Rattle.wasm_imm.specs.BranchTables.{numbers_of}
use Rattle.wasm_imm.specs.declared.block_type.BlockType.{BlockType}
use Rattle.wasm_imm.specs.declared.block_type.BlockType.TheVariants as block
use Rattle.wasm_imm.specs.declared.memory_argument.MemArg.{MemArg}
use Rattle.wasm_instr.specs.declared.operator.Operator.{Operator}
use Rattle.wasm_instr.specs.declared.operator.Operator.TheVariants as operator
use Rattle.wasm_instr.specs.Roles.{role_of}
use Rattle.wasm_instr_ops.specs.declared.misc.MiscOperator.{MiscOperator}
use Rattle.wasm_instr_ops.specs.declared.misc.MiscOperator.TheVariants as misc
use Rattle.wasm_signatures.specs.Misc.{misc_typing}
use Rattle.wasm_signatures.specs.Own.{operator_typing}
use Rattle.wasm_signatures.specs.Premises.{argument_of}
use Rattle.wasm_typing.specs.declared.value_type.ValueType.TheVariants.{I32, Ref}
use Rattle.wasm_typing.specs.Types.{Stack, FunctionType, value_type}
use Rattle.wasm_typing.specs.Matching.{matches, defined}
use Rattle.wasm_typing.specs.Rules.{Rule, fixed, jumps, drops, selects, tests_null, makes_non_null, branches_on_null, invalid, at, or_invalid, Rules}
use Rattle.wasm_typing.specs.Steps.{Frame, step}
use Rattle.wasm_check_control.specs.Environment.{Environment, Table}
use Rattle.wasm_check_control.specs.State.{all_set, Answers, by_rule, outermost}
use Rattle.wasm_check_control.specs.Switches.{switch}
use Rattle.wasm_check_operators.specs.Calls.{tail_call}
use Rattle.wasm_check_operators.specs.Casts.{gc_rule}
use Rattle.wasm_check_operators.specs.Exceptions.{operands_of_tag, clauses_fit}
use Rattle.wasm_check_operators.specs.Forms.{is_valid, exception, only_if, address, reference, func_ref, fixed_at, by_typing, access, by_argument, has_lanes, atomic_access, is_ordered}
use Rattle.wasm_check_operators.specs.Locals.{local_get, local_set, local_tee, starts_set, needed_local, locals_set}
use Rattle.wasm_check_operators.specs.References.{ref_null, ref_func, branches_on_non_null}
use Rattle.wasm_check_operators.specs.Tables.{table_get, table_set, table_size, table_grow, table_fill, copy, init, table_copy, table_init, elem_drop}

-- Section Calls, through a table.
abbrev pub of_function_table : Environment → ℕ → (Table → Rule) → Rule
of_function_table E x f = or_invalid (λ (t : Table). only_if (matches E.order (reference t.element) func_ref) (f t)) (E.tables x)

-- Section Block Types.
abbrev pub block_type : Environment → BlockType → Option FunctionType
block_type E block.Empty = Some (record { takes = []; leaves = [] })
block_type E (block.Value v) = if is_valid E.order (value_type v) then Some (record { takes = []; leaves = value_type v ∷ [] }) else None
block_type E (block.FuncType index) = E.types index

abbrev pub opening_type : Environment → List Stack → Operator → Option FunctionType
opening_type E labels (operator.Block it) = block_type E it
opening_type E labels (operator.Loop it) = block_type E it
opening_type E labels (operator.If it) = block_type E it
opening_type E labels (operator.TryTable t) = if clauses_fit E labels t.catches then block_type E t.ty else None
opening_type E labels _ = None

-- The rule of an operator with the prefix byte 0xfc. Sections Numeric Instructions, Memory
-- Instructions and Table Instructions; proposal wide arithmetic.
abbrev pub misc_rule : Environment → MiscOperator → Rule
misc_rule E (misc.MemoryFill x) = or_invalid (λ (a : Bool). by_typing (fixed_at a) (misc_typing (misc.MemoryFill x))) (E.memories x)
misc_rule E (misc.MemoryInit y x) = only_if (E.has_data y) (or_invalid init (E.memories x))
misc_rule E (misc.MemoryCopy x y) = or_invalid (λ (a : Bool). or_invalid (copy a) (E.memories y)) (E.memories x)
misc_rule E (misc.DataDrop y) = only_if (E.has_data y) (fixed [] [])
misc_rule E (misc.TableInit y x) = or_invalid (λ (t : Table). or_invalid (λ (r : Reference). table_init E.order t r) (E.elements y)) (E.tables x)
misc_rule E (misc.ElemDrop y) = or_invalid elem_drop (E.elements y)
misc_rule E (misc.TableCopy x y) = or_invalid (λ (t : Table). or_invalid (λ (s : Table). table_copy E.order t s) (E.tables y)) (E.tables x)
misc_rule E (misc.TableFill x) = or_invalid table_fill (E.tables x)
misc_rule E (misc.TableGrow x) = or_invalid table_grow (E.tables x)
misc_rule E (misc.TableSize x) = or_invalid table_size (E.tables x)
misc_rule E op = by_typing (fixed_at false) (misc_typing op)

-- The rule of a plain operator.
abbrev pub rule : Environment → List Stack → Operator → Rule
-- Section Parametric Instructions.
rule E labels operator.Unreachable = jumps []
rule E labels operator.Drop = drops
rule E labels operator.Select = selects
rule E labels (operator.TypedSelect v) = only_if (is_valid E.order (value_type v)) (fixed (I32 ∷ value_type v ∷ value_type v ∷ []) (value_type v ∷ []))
-- Section Control Instructions.
rule E labels (operator.Br l) = or_invalid (λ s. jumps s) (at labels l)
rule E labels (operator.BrIf l) = or_invalid (λ s. fixed (I32 ∷ s) s) (at labels l)
rule E labels operator.Return = jumps E.results
rule E labels (operator.Throw x) = or_invalid (λ s. jumps s) (operands_of_tag E x)
rule E labels operator.ThrowRef = jumps (exception ∷ [])
rule E labels (operator.Call x) = or_invalid (λ f. fixed f.takes f.leaves) (E.functions x)
rule E labels (operator.CallIndirect y x) = of_function_table E x (λ t. or_invalid (λ f. fixed (address t.is_64 ∷ f.takes) f.leaves) (E.types y))
rule E labels (operator.CallRef x) = or_invalid (λ f. fixed (Ref true (defined x) ∷ f.takes) f.leaves) (E.types x)
rule E labels (operator.ReturnCall x) = or_invalid (λ f. tail_call E f f.takes) (E.functions x)
rule E labels (operator.ReturnCallIndirect y x) = of_function_table E x (λ t. or_invalid (λ f. tail_call E f (address t.is_64 ∷ f.takes)) (E.types y))
rule E labels (operator.ReturnCallRef x) = or_invalid (λ f. tail_call E f (Ref true (defined x) ∷ f.takes)) (E.types x)
rule E labels (operator.BrTable t) = switch labels (numbers_of t.targets) t.default
rule E labels (operator.BrOnNull l) = or_invalid (λ s. branches_on_null s) (at labels l)
rule E labels (operator.BrOnNonNull l) = or_invalid branches_on_non_null (at labels l)
-- Section Reference Instructions.
rule E labels (operator.RefNull h) = ref_null E h
rule E labels operator.RefIsNull = tests_null
rule E labels (operator.RefFunc x) = ref_func E x
rule E labels operator.RefAsNonNull = makes_non_null
rule E labels operator.RefEq = by_typing (fixed_at false) (operator_typing operator.RefEq)
-- Section Table Instructions.
rule E labels (operator.TableGet x) = or_invalid table_get (E.tables x)
rule E labels (operator.TableSet x) = or_invalid table_set (E.tables x)
-- Section Variable Instructions.
rule E labels (operator.LocalGet x) = or_invalid local_get (E.locals x)
rule E labels (operator.LocalSet x) = or_invalid local_set (E.locals x)
rule E labels (operator.LocalTee x) = or_invalid local_tee (E.locals x)
rule E labels (operator.GlobalGet x) = or_invalid (λ g. fixed [] (value_type g.type ∷ [])) (E.globals x)
rule E labels (operator.GlobalSet x) = or_invalid (λ g. only_if g.mutable (fixed (value_type g.type ∷ []) [])) (E.globals x)
-- Section Memory Instructions.
rule E labels (operator.MemorySize x) = or_invalid (λ (a : Bool). fixed [] (address a ∷ [])) (E.memories x)
rule E labels (operator.MemoryGrow x) = or_invalid (λ (a : Bool). fixed (address a ∷ []) (address a ∷ [])) (E.memories x)
rule E labels (operator.I32Load m) = access E m.target m (operator_typing (operator.I32Load m))
rule E labels (operator.I64Load m) = access E m.target m (operator_typing (operator.I64Load m))
rule E labels (operator.F32Load m) = access E m.target m (operator_typing (operator.F32Load m))
rule E labels (operator.F64Load m) = access E m.target m (operator_typing (operator.F64Load m))
rule E labels (operator.I32Load8S m) = access E m.target m (operator_typing (operator.I32Load8S m))
rule E labels (operator.I32Load8U m) = access E m.target m (operator_typing (operator.I32Load8U m))
rule E labels (operator.I32Load16S m) = access E m.target m (operator_typing (operator.I32Load16S m))
rule E labels (operator.I32Load16U m) = access E m.target m (operator_typing (operator.I32Load16U m))
rule E labels (operator.I64Load8S m) = access E m.target m (operator_typing (operator.I64Load8S m))
rule E labels (operator.I64Load8U m) = access E m.target m (operator_typing (operator.I64Load8U m))
rule E labels (operator.I64Load16S m) = access E m.target m (operator_typing (operator.I64Load16S m))
rule E labels (operator.I64Load16U m) = access E m.target m (operator_typing (operator.I64Load16U m))
rule E labels (operator.I64Load32S m) = access E m.target m (operator_typing (operator.I64Load32S m))
rule E labels (operator.I64Load32U m) = access E m.target m (operator_typing (operator.I64Load32U m))
rule E labels (operator.I32Store m) = access E m.target m (operator_typing (operator.I32Store m))
rule E labels (operator.I64Store m) = access E m.target m (operator_typing (operator.I64Store m))
rule E labels (operator.F32Store m) = access E m.target m (operator_typing (operator.F32Store m))
rule E labels (operator.F64Store m) = access E m.target m (operator_typing (operator.F64Store m))
rule E labels (operator.I32Store8 m) = access E m.target m (operator_typing (operator.I32Store8 m))
rule E labels (operator.I32Store16 m) = access E m.target m (operator_typing (operator.I32Store16 m))
rule E labels (operator.I64Store8 m) = access E m.target m (operator_typing (operator.I64Store8 m))
rule E labels (operator.I64Store16 m) = access E m.target m (operator_typing (operator.I64Store16 m))
rule E labels (operator.I64Store32 m) = access E m.target m (operator_typing (operator.I64Store32 m))
-- Section Numeric Instructions.
rule E labels operator.Nop = by_typing (fixed_at false) (operator_typing operator.Nop)
rule E labels (operator.I32Const c) = by_typing (fixed_at false) (operator_typing (operator.I32Const c))
rule E labels (operator.I64Const c) = by_typing (fixed_at false) (operator_typing (operator.I64Const c))
rule E labels (operator.F32Const c) = by_typing (fixed_at false) (operator_typing (operator.F32Const c))
rule E labels (operator.F64Const c) = by_typing (fixed_at false) (operator_typing (operator.F64Const c))
rule E labels (operator.Numeric op) = by_typing (fixed_at false) (operator_typing (operator.Numeric op))
rule E labels (operator.Misc op) = misc_rule E op
-- Section Aggregate Instructions, and casts.
rule E labels (operator.Gc op) = gc_rule E labels op
-- Section Vector Instructions.
rule E labels (operator.Simd op) = only_if (has_lanes op) (by_argument E (argument_of (operator.Simd op)) (operator_typing (operator.Simd op)))
-- Proposal threads.
rule E labels (operator.Atomic op) = only_if (is_ordered op) (atomic_access E (argument_of (operator.Atomic op)) (operator_typing (operator.Atomic op)))
rule E labels _ = invalid

-- The rules in an environment, if every local is set.
abbrev pub rules_if_set : Environment → Rules Operator
rules_if_set E = all_set E.order (rule E) (opening_type E)

-- The rules in an environment.
abbrev pub rules_of : Environment → Rules Operator
rules_of E =
    record {
      order = E.order;
      rule = rule E;
      type = opening_type E;
      is_set = λ x. starts_set (E.locals x);
      needs = needed_local;
      sets = locals_set;
    }

-- The result says whether an operator with this rule has a type, and if so, the frames after it.
abbrev pub Follows : {X : Type 0} → Environment → Rule → List Frame → Result Bool X → List Frame → Type 0
Follows E r old result new = IfOk result (λ yes. Answers yes (by_rule E.order r old) new)

-- The result says whether an operator has a type, and if so, the frames after it, with the locals
-- that are set.
abbrev pub StepsOn : {X : Type 0} → Environment → Operator → List Frame → Result Bool X → List Frame → Type 0
StepsOn E op old result new = IfOk result (λ yes. Answers yes (step (outermost (rules_of E)) old (role_of op)) new)

-- A constant or a numeric operator with a one-byte opcode.
abbrev pub IsDetermined : Operator → Type 0
IsDetermined (operator.I32Const c) = Unit {0}
IsDetermined (operator.I64Const c) = Unit {0}
IsDetermined (operator.F32Const c) = Unit {0}
IsDetermined (operator.F64Const c) = Unit {0}
IsDetermined (operator.Numeric op) = Unit {0}
IsDetermined _ = ⊥

-- A load or a store with a one-byte opcode and this memory argument.
abbrev pub IsAccess : Operator → MemArg → Type 0
IsAccess (operator.I32Load m) memarg = m ≡ memarg
IsAccess (operator.I64Load m) memarg = m ≡ memarg
IsAccess (operator.F32Load m) memarg = m ≡ memarg
IsAccess (operator.F64Load m) memarg = m ≡ memarg
IsAccess (operator.I32Load8S m) memarg = m ≡ memarg
IsAccess (operator.I32Load8U m) memarg = m ≡ memarg
IsAccess (operator.I32Load16S m) memarg = m ≡ memarg
IsAccess (operator.I32Load16U m) memarg = m ≡ memarg
IsAccess (operator.I64Load8S m) memarg = m ≡ memarg
IsAccess (operator.I64Load8U m) memarg = m ≡ memarg
IsAccess (operator.I64Load16S m) memarg = m ≡ memarg
IsAccess (operator.I64Load16U m) memarg = m ≡ memarg
IsAccess (operator.I64Load32S m) memarg = m ≡ memarg
IsAccess (operator.I64Load32U m) memarg = m ≡ memarg
IsAccess (operator.I32Store m) memarg = m ≡ memarg
IsAccess (operator.I64Store m) memarg = m ≡ memarg
IsAccess (operator.F32Store m) memarg = m ≡ memarg
IsAccess (operator.F64Store m) memarg = m ≡ memarg
IsAccess (operator.I32Store8 m) memarg = m ≡ memarg
IsAccess (operator.I32Store16 m) memarg = m ≡ memarg
IsAccess (operator.I64Store8 m) memarg = m ≡ memarg
IsAccess (operator.I64Store16 m) memarg = m ≡ memarg
IsAccess (operator.I64Store32 m) memarg = m ≡ memarg
IsAccess _ memarg = ⊥
