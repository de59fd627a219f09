-- Written by tools/lists.py from tools/operators.tsv.
-- Specification: Numeric, Memory and Table Instructions; proposals memory control and wide arithmetic; Appendix, Index of Instructions.
use Rattle.std.specs.Prelude.{[], ◌∷◌}
use Rattle.wasm_imm.specs.declared.proposal.Proposal.TheVariants as proposal
use Rattle.wasm_instr_ops.specs.declared.misc.MiscOperator.{MiscOperator}
use Rattle.wasm_instr_ops.specs.declared.misc.MiscOperator.TheVariants as misc
use Rattle.wasm_signatures.specs.Types.{OperatorTyping, fixed, by_rule, unsupported}
use Rattle.wasm_signatures.specs.declared.operand_type.OperandType.TheVariants as t
use Rattle.wasm_signatures.specs.declared.rule.Rule.TheVariants as rule

-- The typing of the operators with the prefix byte 0xfc.
abbrev pub misc_typing : MiscOperator → OperatorTyping
misc_typing misc.I32TruncSatF32S = fixed (record { takes = t.F32 ∷ []; leaves = t.I32 ∷ [] })
misc_typing misc.I32TruncSatF32U = fixed (record { takes = t.F32 ∷ []; leaves = t.I32 ∷ [] })
misc_typing misc.I32TruncSatF64S = fixed (record { takes = t.F64 ∷ []; leaves = t.I32 ∷ [] })
misc_typing misc.I32TruncSatF64U = fixed (record { takes = t.F64 ∷ []; leaves = t.I32 ∷ [] })
misc_typing misc.I64TruncSatF32S = fixed (record { takes = t.F32 ∷ []; leaves = t.I64 ∷ [] })
misc_typing misc.I64TruncSatF32U = fixed (record { takes = t.F32 ∷ []; leaves = t.I64 ∷ [] })
misc_typing misc.I64TruncSatF64S = fixed (record { takes = t.F64 ∷ []; leaves = t.I64 ∷ [] })
misc_typing misc.I64TruncSatF64U = fixed (record { takes = t.F64 ∷ []; leaves = t.I64 ∷ [] })
misc_typing (misc.MemoryInit _ _) = by_rule rule.Memory
misc_typing (misc.DataDrop _) = by_rule rule.Memory
misc_typing (misc.MemoryCopy _ _) = by_rule rule.Memory
misc_typing (misc.MemoryFill _) = fixed (record { takes = t.Address ∷ t.I32 ∷ t.Address ∷ []; leaves = [] })
misc_typing (misc.TableInit _ _) = by_rule rule.Table
misc_typing (misc.ElemDrop _) = by_rule rule.Table
misc_typing (misc.TableCopy _ _) = by_rule rule.Table
misc_typing (misc.TableFill _) = by_rule rule.Table
misc_typing (misc.TableGrow _) = by_rule rule.Table
misc_typing (misc.TableSize _) = by_rule rule.Table
misc_typing (misc.MemoryDiscard _) = unsupported proposal.MemoryControl
misc_typing misc.I64Add128 = fixed (record { takes = t.I64 ∷ t.I64 ∷ t.I64 ∷ t.I64 ∷ []; leaves = t.I64 ∷ t.I64 ∷ [] })
misc_typing misc.I64Sub128 = fixed (record { takes = t.I64 ∷ t.I64 ∷ t.I64 ∷ t.I64 ∷ []; leaves = t.I64 ∷ t.I64 ∷ [] })
misc_typing misc.I64MulWideS = fixed (record { takes = t.I64 ∷ t.I64 ∷ []; leaves = t.I64 ∷ t.I64 ∷ [] })
misc_typing misc.I64MulWideU = fixed (record { takes = t.I64 ∷ t.I64 ∷ []; leaves = t.I64 ∷ t.I64 ∷ [] })
