-- Specification: Validation, Instructions; Appendix, Validation Algorithm. Proposals legacy
-- exception handling, stack switching and custom descriptors. The operator that opens a construct
-- takes its parameters and passes them to its body. An `end` takes and returns the results.
use Rattle.std.specs.Prelude.{ℕ, ◌+◌, ◌-◌, ◌*◌, ◌^◌, ◌==◌, nat_lt, if◌then◌else◌, Option, Some, None, length}
use Rattle.std.specs.Option.{option_map, option_and_then}
use Rattle.wasm_grammar.specs.declared.frame_kind.FrameKind.{FrameKind}
use Rattle.wasm_grammar.specs.declared.frame_kind.FrameKind.TheVariants as frame
use Rattle.wasm_imm.specs.declared.block_type.BlockType.{BlockType}
use Rattle.wasm_imm.specs.declared.block_type.BlockType.TheVariants as block
use Rattle.wasm_instr_ops.specs.declared.gc.GcOperator.{GcOperator}
use Rattle.wasm_instr_ops.specs.declared.gc.GcOperator.TheVariants as gc
use Rattle.wasm_instr.specs.declared.operator.Operator.{Operator}
use Rattle.wasm_instr.specs.declared.operator.Operator.TheVariants as operator
use Rattle.wasm_instr.specs.ModuleFacts.{ModuleFacts}
use Rattle.wasm_instr.specs.FixedArity.{fixed_arity, gc_pair}

abbrev pub Arity : Type 0
Arity = Option (ℕ × ℕ)

-- The sum, if it is less than 2^32.
abbrev pub sum_within : ℕ → ℕ → Option ℕ
sum_within n by = if nat_lt (n + by) (2 ^ 32) then Some (n + by) else None

abbrev pub taking_more : ℕ → ℕ × ℕ → Arity
taking_more by a = option_map (λ takes. (takes, a.1)) (sum_within a.0 by)

abbrev pub arity_of_block : ModuleFacts → BlockType → Arity
arity_of_block m block.Empty = Some (0, 0)
arity_of_block m (block.Value _) = Some (0, 1)
arity_of_block m (block.FuncType i) = m.func_type_arity i

-- The numbers of parameters and results of the frame at a depth. The innermost frame has depth 0.
abbrev pub arity_of_frame : ModuleFacts → ℕ → Arity
arity_of_frame m depth = option_and_then (λ b. arity_of_block m b.0) (m.label_block depth)

-- A branch to a loop carries its parameters, to another construct its results.
abbrev pub carried : FrameKind → ℕ × ℕ → ℕ
carried frame.Loop a = a.0
carried _ a = a.1

abbrev pub arity_of_label : ModuleFacts → ℕ → Option ℕ
arity_of_label m depth = option_and_then (λ b. option_map (carried b.1) (arity_of_block m b.0)) (m.label_block depth)

abbrev pub arity_of_function : ModuleFacts → ℕ → Arity
arity_of_function m i = option_and_then m.func_type_arity (m.type_index_of_function i)

abbrev pub arity_of_continuation : ModuleFacts → ℕ → Arity
arity_of_continuation m i = option_and_then m.func_type_arity (m.cont_type_func i)

-- block, loop, try and try_table pass on parameters.
abbrev pub arity_of_entry : ModuleFacts → BlockType → Arity
arity_of_entry m ty = option_map (λ a. (a.0, a.0)) (arity_of_block m ty)

-- if takes the parameters and the condition.
abbrev pub arity_of_if : ModuleFacts → BlockType → Arity
arity_of_if m ty = option_and_then (taking_more 1) (arity_of_entry m ty)

-- else takes the results of the first list, and passes the parameters to the second.
abbrev pub arity_of_else : ModuleFacts → Arity
arity_of_else m = option_map (λ a. (a.1, a.0)) (arity_of_frame m 0)

-- catch takes the results of the list before it, and passes on its tag's parameters.
abbrev pub arity_of_catch : ModuleFacts → ℕ → Arity
arity_of_catch m tag = option_and_then (λ a. option_map (λ t. (a.1, t.0)) (m.tag_type_arity tag)) (arity_of_frame m 0)

-- catch_all takes the results of the list before it, and passes nothing.
abbrev pub arity_of_catch_all : ModuleFacts → Arity
arity_of_catch_all m = option_map (λ a. (a.1, 0)) (arity_of_frame m 0)

-- The arity of end and delegate.
abbrev pub arity_of_end : ModuleFacts → Arity
arity_of_end m = option_map (λ a. (a.1, a.1)) (arity_of_frame m 0)

-- return takes the results of the outermost frame, if one is open.
abbrev pub arity_of_return : ModuleFacts → Arity
arity_of_return m = if m.control_stack_height == 0 then None else option_map (λ a. (a.1, 0)) (arity_of_frame m (m.control_stack_height - 1))

-- An operator that does not fall through has no results.
abbrev pub leaving : Arity → Arity
leaving a = option_map (λ p. (p.0, 0)) a

-- A branch takes the values that it carries. They stay if it falls through.
abbrev pub arity_of_branch : ModuleFacts → ℕ → Arity
arity_of_branch m depth = option_map (λ n. (n, n)) (arity_of_label m depth)

-- A branch with a condition takes one operand more.
abbrev pub arity_of_branch_if : ModuleFacts → ℕ → Arity
arity_of_branch_if m depth = option_and_then (taking_more 1) (arity_of_branch m depth)

-- br_on_null takes the carried values and a reference, which all stay if it falls through.
abbrev pub arity_of_branch_on_null : ModuleFacts → ℕ → Arity
arity_of_branch_on_null m depth = option_and_then (λ n. option_map (λ one_more. (one_more, one_more)) (sum_within n 1)) (arity_of_label m depth)

-- The arity (n, n - 1), unless n is 0.
abbrev pub less_one : ℕ → Arity
less_one n = if n == 0 then None else Some (n, n - 1)

-- br_on_non_null takes the carried values. All but the reference stay if it falls through.
abbrev pub arity_of_branch_on_non_null : ModuleFacts → ℕ → Arity
arity_of_branch_on_non_null m depth = option_and_then less_one (arity_of_label m depth)

abbrev pub arity_of_type_call : ModuleFacts → ℕ → Arity
arity_of_type_call m i = option_and_then (taking_more 1) (m.func_type_arity i)

-- A select with n types takes two values of each and the condition.
abbrev pub arity_of_select : ℕ → Arity
arity_of_select n = if nat_lt (2 * n + 1) (2 ^ 32) then Some (2 * n + 1, n) else None

-- cont.bind, for continuation types with p and q parameters, takes p - q parameters and the
-- continuation.
abbrev pub bound_within : ℕ → ℕ → Arity
bound_within p q = if nat_lt p q then None else option_map (λ takes. (takes, 1)) (sum_within (p - q) 1)

abbrev pub arity_of_bind : ModuleFacts → ℕ → ℕ → Arity
arity_of_bind m from to = option_and_then (λ a. option_and_then (λ b. bound_within a.0 b.0) (arity_of_continuation m to)) (arity_of_continuation m from)

-- resume takes the continuation type's parameters and the continuation.
abbrev pub arity_of_resume : ModuleFacts → ℕ → Arity
arity_of_resume m i = option_and_then (taking_more 1) (arity_of_continuation m i)

-- resume_throw takes the tag's parameters and the continuation.
abbrev pub arity_of_resume_throw : ModuleFacts → ℕ → ℕ → Arity
arity_of_resume_throw m i tag = option_and_then (λ t. option_and_then (λ a. taking_more 1 (t.0, a.1)) (arity_of_continuation m i)) (m.tag_type_arity tag)

-- resume_throw_ref takes the exception and the continuation.
abbrev pub arity_of_resume_throw_ref : ModuleFacts → ℕ → Arity
arity_of_resume_throw_ref m i = option_map (λ a. (2, a.1)) (arity_of_continuation m i)

-- The arity of the continuation type that is the last parameter of a switch's continuation type.
abbrev pub arity_of_switched : ModuleFacts → ℕ → Arity
arity_of_switched m i = option_and_then (arity_of_continuation m) (option_and_then m.cont_type_of_last_param (m.cont_type_func i))

-- switch takes one value per parameter of its continuation type, and returns the last parameter's
-- parameters.
abbrev pub arity_of_switch : ModuleFacts → ℕ → Arity
arity_of_switch m i = option_and_then (λ a. option_map (λ b. (a.0, b.0)) (arity_of_switched m i)) (arity_of_continuation m i)

abbrev pub arity_of_struct : ModuleFacts → ℕ → Arity
arity_of_struct m i = option_map (λ n. (n, 1)) (m.struct_type_fields i)

abbrev pub gc_arity_of : ModuleFacts → GcOperator → Arity
gc_arity_of m (gc.StructNew i) = arity_of_struct m i
gc_arity_of m (gc.StructNewDesc i) = option_and_then (taking_more 1) (arity_of_struct m i)
gc_arity_of m (gc.ArrayNewFixed _ n) = Some (n, 1)
gc_arity_of m (gc.BrOnCast depth _ _) = arity_of_branch m depth
gc_arity_of m (gc.BrOnCastFail depth _ _) = arity_of_branch m depth
gc_arity_of m (gc.BrOnCastDescEq depth _ _) = arity_of_branch_if m depth
gc_arity_of m (gc.BrOnCastDescEqFail depth _ _) = arity_of_branch_if m depth
gc_arity_of m op = gc_pair op

-- The numbers of operands and results; `None` if the module does not determine them, or one exceeds
-- 32 bits.
abbrev pub arity_of : ModuleFacts → Operator → Arity
arity_of m (operator.Block ty) = arity_of_entry m ty
arity_of m (operator.Loop ty) = arity_of_entry m ty
arity_of m (operator.Try ty) = arity_of_entry m ty
arity_of m (operator.TryTable t) = arity_of_entry m t.ty
arity_of m (operator.If ty) = arity_of_if m ty
arity_of m operator.Else = arity_of_else m
arity_of m (operator.Catch tag) = arity_of_catch m tag
arity_of m operator.CatchAll = arity_of_catch_all m
arity_of m operator.End = arity_of_end m
arity_of m (operator.Delegate _) = arity_of_end m
arity_of m (operator.Throw tag) = leaving (m.tag_type_arity tag)
arity_of m (operator.Br depth) = leaving (arity_of_branch m depth)
arity_of m (operator.BrIf depth) = arity_of_branch_if m depth
arity_of m (operator.BrTable t) = leaving (arity_of_branch_if m t.default)
arity_of m operator.Return = arity_of_return m
arity_of m (operator.Call i) = arity_of_function m i
arity_of m (operator.ReturnCall i) = leaving (arity_of_function m i)
arity_of m (operator.CallIndirect i _) = arity_of_type_call m i
arity_of m (operator.CallRef i) = arity_of_type_call m i
arity_of m (operator.ReturnCallIndirect i _) = leaving (arity_of_type_call m i)
arity_of m (operator.ReturnCallRef i) = leaving (arity_of_type_call m i)
arity_of m (operator.TypedSelectMulti tys) = arity_of_select (length tys)
arity_of m (operator.BrOnNull depth) = arity_of_branch_on_null m depth
arity_of m (operator.BrOnNonNull depth) = arity_of_branch_on_non_null m depth
arity_of m (operator.ContBind from to) = arity_of_bind m from to
arity_of m (operator.Suspend tag) = m.tag_type_arity tag
arity_of m (operator.Resume i _) = arity_of_resume m i
arity_of m (operator.ResumeThrow i tag _) = arity_of_resume_throw m i tag
arity_of m (operator.ResumeThrowRef i _) = arity_of_resume_throw_ref m i
arity_of m (operator.Switch i _) = arity_of_switch m i
arity_of m (operator.Gc op) = gc_arity_of m op
arity_of m op = fixed_arity op
