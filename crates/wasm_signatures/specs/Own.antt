-- Written by tools/lists.py from tools/operators.tsv.
-- Specification: Instructions; Appendix, Index of Instructions.
use Rattle.std.specs.Prelude.{[], ◌∷◌}
use Rattle.wasm_imm.specs.declared.proposal.Proposal.TheVariants as proposal
use Rattle.wasm_instr.specs.declared.operator.Operator.{Operator}
use Rattle.wasm_instr.specs.declared.operator.Operator.TheVariants as operator
use Rattle.wasm_signatures.specs.Numeric.{numeric_type}
use Rattle.wasm_signatures.specs.Gc.{gc_typing}
use Rattle.wasm_signatures.specs.Misc.{misc_typing}
use Rattle.wasm_signatures.specs.Simd.{simd_type}
use Rattle.wasm_signatures.specs.Atomic.{atomic_typing}
use Rattle.wasm_signatures.specs.Types.{OperatorTyping, fixed, by_rule, unsupported}
use Rattle.wasm_signatures.specs.declared.operand_type.OperandType.TheVariants as t
use Rattle.wasm_signatures.specs.declared.rule.Rule.TheVariants as rule

-- The typing of any operator.
abbrev pub operator_typing : Operator → OperatorTyping
operator_typing operator.Unreachable = by_rule rule.Parametric
operator_typing operator.Nop = fixed (record { takes = []; leaves = [] })
operator_typing (operator.Block _) = by_rule rule.Construct
operator_typing (operator.Loop _) = by_rule rule.Construct
operator_typing (operator.If _) = by_rule rule.Construct
operator_typing operator.Else = by_rule rule.Construct
operator_typing operator.End = by_rule rule.Construct
operator_typing (operator.Br _) = by_rule rule.Branch
operator_typing (operator.BrIf _) = by_rule rule.Branch
operator_typing (operator.BrTable _) = by_rule rule.Branch
operator_typing operator.Return = by_rule rule.Branch
operator_typing (operator.Call _) = by_rule rule.Call
operator_typing (operator.CallIndirect _ _) = by_rule rule.Call
operator_typing operator.Drop = by_rule rule.Parametric
operator_typing operator.Select = by_rule rule.Parametric
operator_typing (operator.LocalGet _) = by_rule rule.Local
operator_typing (operator.LocalSet _) = by_rule rule.Local
operator_typing (operator.LocalTee _) = by_rule rule.Local
operator_typing (operator.GlobalGet _) = by_rule rule.Global
operator_typing (operator.GlobalSet _) = by_rule rule.Global
operator_typing (operator.I32Load _) = fixed (record { takes = t.Address ∷ []; leaves = t.I32 ∷ [] })
operator_typing (operator.I64Load _) = fixed (record { takes = t.Address ∷ []; leaves = t.I64 ∷ [] })
operator_typing (operator.F32Load _) = fixed (record { takes = t.Address ∷ []; leaves = t.F32 ∷ [] })
operator_typing (operator.F64Load _) = fixed (record { takes = t.Address ∷ []; leaves = t.F64 ∷ [] })
operator_typing (operator.I32Load8S _) = fixed (record { takes = t.Address ∷ []; leaves = t.I32 ∷ [] })
operator_typing (operator.I32Load8U _) = fixed (record { takes = t.Address ∷ []; leaves = t.I32 ∷ [] })
operator_typing (operator.I32Load16S _) = fixed (record { takes = t.Address ∷ []; leaves = t.I32 ∷ [] })
operator_typing (operator.I32Load16U _) = fixed (record { takes = t.Address ∷ []; leaves = t.I32 ∷ [] })
operator_typing (operator.I64Load8S _) = fixed (record { takes = t.Address ∷ []; leaves = t.I64 ∷ [] })
operator_typing (operator.I64Load8U _) = fixed (record { takes = t.Address ∷ []; leaves = t.I64 ∷ [] })
operator_typing (operator.I64Load16S _) = fixed (record { takes = t.Address ∷ []; leaves = t.I64 ∷ [] })
operator_typing (operator.I64Load16U _) = fixed (record { takes = t.Address ∷ []; leaves = t.I64 ∷ [] })
operator_typing (operator.I64Load32S _) = fixed (record { takes = t.Address ∷ []; leaves = t.I64 ∷ [] })
operator_typing (operator.I64Load32U _) = fixed (record { takes = t.Address ∷ []; leaves = t.I64 ∷ [] })
operator_typing (operator.I32Store _) = fixed (record { takes = t.Address ∷ t.I32 ∷ []; leaves = [] })
operator_typing (operator.I64Store _) = fixed (record { takes = t.Address ∷ t.I64 ∷ []; leaves = [] })
operator_typing (operator.F32Store _) = fixed (record { takes = t.Address ∷ t.F32 ∷ []; leaves = [] })
operator_typing (operator.F64Store _) = fixed (record { takes = t.Address ∷ t.F64 ∷ []; leaves = [] })
operator_typing (operator.I32Store8 _) = fixed (record { takes = t.Address ∷ t.I32 ∷ []; leaves = [] })
operator_typing (operator.I32Store16 _) = fixed (record { takes = t.Address ∷ t.I32 ∷ []; leaves = [] })
operator_typing (operator.I64Store8 _) = fixed (record { takes = t.Address ∷ t.I64 ∷ []; leaves = [] })
operator_typing (operator.I64Store16 _) = fixed (record { takes = t.Address ∷ t.I64 ∷ []; leaves = [] })
operator_typing (operator.I64Store32 _) = fixed (record { takes = t.Address ∷ t.I64 ∷ []; leaves = [] })
operator_typing (operator.MemorySize _) = fixed (record { takes = []; leaves = t.Address ∷ [] })
operator_typing (operator.MemoryGrow _) = fixed (record { takes = t.Address ∷ []; leaves = t.Address ∷ [] })
operator_typing (operator.I32Const _) = fixed (record { takes = []; leaves = t.I32 ∷ [] })
operator_typing (operator.I64Const _) = fixed (record { takes = []; leaves = t.I64 ∷ [] })
operator_typing (operator.F32Const _) = fixed (record { takes = []; leaves = t.F32 ∷ [] })
operator_typing (operator.F64Const _) = fixed (record { takes = []; leaves = t.F64 ∷ [] })
operator_typing operator.RefEq = fixed (record { takes = t.EqRef ∷ t.EqRef ∷ []; leaves = t.I32 ∷ [] })
operator_typing (operator.TypedSelect _) = by_rule rule.Parametric
operator_typing (operator.TypedSelectMulti _) = by_rule rule.Parametric
operator_typing (operator.RefNull _) = by_rule rule.Reference
operator_typing operator.RefIsNull = by_rule rule.Reference
operator_typing (operator.RefFunc _) = by_rule rule.Reference
operator_typing (operator.TableGet _) = by_rule rule.Table
operator_typing (operator.TableSet _) = by_rule rule.Table
operator_typing (operator.ReturnCall _) = by_rule rule.Call
operator_typing (operator.ReturnCallIndirect _ _) = by_rule rule.Call
operator_typing (operator.TryTable _) = by_rule rule.Construct
operator_typing (operator.Throw _) = by_rule rule.Throw
operator_typing operator.ThrowRef = by_rule rule.Throw
operator_typing (operator.Try _) = unsupported proposal.LegacyExceptions
operator_typing (operator.Catch _) = unsupported proposal.LegacyExceptions
operator_typing (operator.Rethrow _) = unsupported proposal.LegacyExceptions
operator_typing (operator.Delegate _) = unsupported proposal.LegacyExceptions
operator_typing operator.CatchAll = unsupported proposal.LegacyExceptions
operator_typing (operator.CallRef _) = by_rule rule.Call
operator_typing (operator.ReturnCallRef _) = by_rule rule.Call
operator_typing operator.RefAsNonNull = by_rule rule.Reference
operator_typing (operator.BrOnNull _) = by_rule rule.Branch
operator_typing (operator.BrOnNonNull _) = by_rule rule.Branch
operator_typing (operator.ContNew _) = unsupported proposal.StackSwitching
operator_typing (operator.ContBind _ _) = unsupported proposal.StackSwitching
operator_typing (operator.Suspend _) = unsupported proposal.StackSwitching
operator_typing (operator.Resume _ _) = unsupported proposal.StackSwitching
operator_typing (operator.ResumeThrow _ _ _) = unsupported proposal.StackSwitching
operator_typing (operator.ResumeThrowRef _ _) = unsupported proposal.StackSwitching
operator_typing (operator.Switch _ _) = unsupported proposal.StackSwitching
operator_typing (operator.Numeric op) = fixed (numeric_type op)
operator_typing (operator.Gc op) = gc_typing op
operator_typing (operator.Misc op) = misc_typing op
operator_typing (operator.Simd op) = fixed (simd_type op)
operator_typing (operator.Atomic op) = atomic_typing op
