-- Written by tools/lists.py from tools/operators.tsv.
-- Specification: Aggregate Instructions; proposal custom descriptors; Appendix, Index of Instructions.
use Rattle.std.specs.Prelude.{[], ◌∷◌}
use Rattle.wasm_imm.specs.declared.proposal.Proposal.TheVariants as proposal
use Rattle.wasm_instr_ops.specs.declared.gc.GcOperator.{GcOperator}
use Rattle.wasm_instr_ops.specs.declared.gc.GcOperator.TheVariants as gc
use Rattle.wasm_signatures.specs.Types.{OperatorTyping, fixed, by_rule, unsupported}
use Rattle.wasm_signatures.specs.declared.operand_type.OperandType.TheVariants as t
use Rattle.wasm_signatures.specs.declared.rule.Rule.TheVariants as rule

-- The typing of the operators with the prefix byte 0xfb.
abbrev pub gc_typing : GcOperator → OperatorTyping
gc_typing (gc.StructNew _) = by_rule rule.Structure
gc_typing (gc.StructNewDefault _) = by_rule rule.Structure
gc_typing (gc.StructGet _ _) = by_rule rule.Structure
gc_typing (gc.StructGetS _ _) = by_rule rule.Structure
gc_typing (gc.StructGetU _ _) = by_rule rule.Structure
gc_typing (gc.StructSet _ _) = by_rule rule.Structure
gc_typing (gc.ArrayNew _) = by_rule rule.Array
gc_typing (gc.ArrayNewDefault _) = by_rule rule.Array
gc_typing (gc.ArrayNewFixed _ _) = by_rule rule.Array
gc_typing (gc.ArrayNewData _ _) = by_rule rule.Array
gc_typing (gc.ArrayNewElem _ _) = by_rule rule.Array
gc_typing (gc.ArrayGet _) = by_rule rule.Array
gc_typing (gc.ArrayGetS _) = by_rule rule.Array
gc_typing (gc.ArrayGetU _) = by_rule rule.Array
gc_typing (gc.ArraySet _) = by_rule rule.Array
gc_typing gc.ArrayLen = fixed (record { takes = t.ArrayRef ∷ []; leaves = t.I32 ∷ [] })
gc_typing (gc.ArrayFill _) = by_rule rule.Array
gc_typing (gc.ArrayCopy _ _) = by_rule rule.Array
gc_typing (gc.ArrayInitData _ _) = by_rule rule.Array
gc_typing (gc.ArrayInitElem _ _) = by_rule rule.Array
gc_typing (gc.RefTestNonNull _) = by_rule rule.Reference
gc_typing (gc.RefTestNullable _) = by_rule rule.Reference
gc_typing (gc.RefCastNonNull _) = by_rule rule.Reference
gc_typing (gc.RefCastNullable _) = by_rule rule.Reference
gc_typing (gc.BrOnCast _ _ _) = by_rule rule.Branch
gc_typing (gc.BrOnCastFail _ _ _) = by_rule rule.Branch
gc_typing gc.AnyConvertExtern = by_rule rule.Reference
gc_typing gc.ExternConvertAny = by_rule rule.Reference
gc_typing gc.RefI31 = fixed (record { takes = t.I32 ∷ []; leaves = t.I31 ∷ [] })
gc_typing gc.I31GetS = fixed (record { takes = t.I31Ref ∷ []; leaves = t.I32 ∷ [] })
gc_typing gc.I31GetU = fixed (record { takes = t.I31Ref ∷ []; leaves = t.I32 ∷ [] })
gc_typing (gc.StructNewDesc _) = unsupported proposal.CustomDescriptors
gc_typing (gc.StructNewDefaultDesc _) = unsupported proposal.CustomDescriptors
gc_typing (gc.RefGetDesc _) = unsupported proposal.CustomDescriptors
gc_typing (gc.RefCastDescEqNonNull _) = unsupported proposal.CustomDescriptors
gc_typing (gc.RefCastDescEqNullable _) = unsupported proposal.CustomDescriptors
gc_typing (gc.BrOnCastDescEq _ _ _) = unsupported proposal.CustomDescriptors
gc_typing (gc.BrOnCastDescEqFail _ _ _) = unsupported proposal.CustomDescriptors
