-- Written by tools/lists.py from tools/operators.tsv.
-- The table of the operators with the prefix byte 0xfc: a function for each column.
-- Specification: Binary Format, Numeric, Memory and Table Instructions; proposals memory control and wide arithmetic.
use Rattle.std.specs.Prelude.{ℕ, List, [], ◌∷◌, codes}
use Rattle.wasm_imm.specs.declared.proposal.Proposal.{Proposal}
use Rattle.wasm_imm.specs.declared.proposal.Proposal.TheVariants as proposal
use Rattle.wasm_instr_ops.specs.declared.misc.MiscOperator.{MiscOperator}
use Rattle.wasm_instr_ops.specs.declared.misc.MiscOperator.TheVariants as misc
use Rattle.wasm_imm.specs.Immediate.{Immediate, unsigned_32}

-- The operator's proposal.
abbrev pub misc_proposal : MiscOperator → Proposal
misc_proposal (misc.MemoryInit _ _) = proposal.BulkMemory
misc_proposal (misc.DataDrop _) = proposal.BulkMemory
misc_proposal (misc.MemoryCopy _ _) = proposal.BulkMemory
misc_proposal (misc.MemoryFill _) = proposal.BulkMemory
misc_proposal (misc.TableInit _ _) = proposal.BulkMemory
misc_proposal (misc.ElemDrop _) = proposal.BulkMemory
misc_proposal (misc.TableCopy _ _) = proposal.BulkMemory
misc_proposal (misc.TableFill _) = proposal.ReferenceTypes
misc_proposal (misc.TableGrow _) = proposal.ReferenceTypes
misc_proposal (misc.TableSize _) = proposal.ReferenceTypes
misc_proposal (misc.MemoryDiscard _) = proposal.MemoryControl
misc_proposal misc.I64Add128 = proposal.WideArithmetic
misc_proposal misc.I64Sub128 = proposal.WideArithmetic
misc_proposal misc.I64MulWideS = proposal.WideArithmetic
misc_proposal misc.I64MulWideU = proposal.WideArithmetic
misc_proposal _ = proposal.SaturatingFloatToInt

-- The variant's name.
abbrev pub misc_name : MiscOperator → List ℕ
misc_name misc.I32TruncSatF32S = codes "I32TruncSatF32S"
misc_name misc.I32TruncSatF32U = codes "I32TruncSatF32U"
misc_name misc.I32TruncSatF64S = codes "I32TruncSatF64S"
misc_name misc.I32TruncSatF64U = codes "I32TruncSatF64U"
misc_name misc.I64TruncSatF32S = codes "I64TruncSatF32S"
misc_name misc.I64TruncSatF32U = codes "I64TruncSatF32U"
misc_name misc.I64TruncSatF64S = codes "I64TruncSatF64S"
misc_name misc.I64TruncSatF64U = codes "I64TruncSatF64U"
misc_name (misc.MemoryInit _ _) = codes "MemoryInit"
misc_name (misc.DataDrop _) = codes "DataDrop"
misc_name (misc.MemoryCopy _ _) = codes "MemoryCopy"
misc_name (misc.MemoryFill _) = codes "MemoryFill"
misc_name (misc.TableInit _ _) = codes "TableInit"
misc_name (misc.ElemDrop _) = codes "ElemDrop"
misc_name (misc.TableCopy _ _) = codes "TableCopy"
misc_name (misc.TableFill _) = codes "TableFill"
misc_name (misc.TableGrow _) = codes "TableGrow"
misc_name (misc.TableSize _) = codes "TableSize"
misc_name (misc.MemoryDiscard _) = codes "MemoryDiscard"
misc_name misc.I64Add128 = codes "I64Add128"
misc_name misc.I64Sub128 = codes "I64Sub128"
misc_name misc.I64MulWideS = codes "I64MulWideS"
misc_name misc.I64MulWideU = codes "I64MulWideU"

-- The subopcode.
abbrev pub misc_subopcode : MiscOperator → ℕ
misc_subopcode misc.I32TruncSatF32S = 0x00
misc_subopcode misc.I32TruncSatF32U = 0x01
misc_subopcode misc.I32TruncSatF64S = 0x02
misc_subopcode misc.I32TruncSatF64U = 0x03
misc_subopcode misc.I64TruncSatF32S = 0x04
misc_subopcode misc.I64TruncSatF32U = 0x05
misc_subopcode misc.I64TruncSatF64S = 0x06
misc_subopcode misc.I64TruncSatF64U = 0x07
misc_subopcode (misc.MemoryInit _ _) = 0x08
misc_subopcode (misc.DataDrop _) = 0x09
misc_subopcode (misc.MemoryCopy _ _) = 0x0a
misc_subopcode (misc.MemoryFill _) = 0x0b
misc_subopcode (misc.TableInit _ _) = 0x0c
misc_subopcode (misc.ElemDrop _) = 0x0d
misc_subopcode (misc.TableCopy _ _) = 0x0e
misc_subopcode (misc.TableFill _) = 0x11
misc_subopcode (misc.TableGrow _) = 0x0f
misc_subopcode (misc.TableSize _) = 0x10
misc_subopcode (misc.MemoryDiscard _) = 0x12
misc_subopcode misc.I64Add128 = 0x13
misc_subopcode misc.I64Sub128 = 0x14
misc_subopcode misc.I64MulWideS = 0x15
misc_subopcode misc.I64MulWideU = 0x16

abbrev pub misc_immediates : MiscOperator → List Immediate
misc_immediates (misc.MemoryInit data_index mem) = unsigned_32 data_index ∷ unsigned_32 mem ∷ []
misc_immediates (misc.DataDrop data_index) = unsigned_32 data_index ∷ []
misc_immediates (misc.MemoryCopy dst_mem src_mem) = unsigned_32 dst_mem ∷ unsigned_32 src_mem ∷ []
misc_immediates (misc.MemoryFill mem) = unsigned_32 mem ∷ []
misc_immediates (misc.TableInit elem_index table) = unsigned_32 elem_index ∷ unsigned_32 table ∷ []
misc_immediates (misc.ElemDrop elem_index) = unsigned_32 elem_index ∷ []
misc_immediates (misc.TableCopy dst_table src_table) = unsigned_32 dst_table ∷ unsigned_32 src_table ∷ []
misc_immediates (misc.TableFill table) = unsigned_32 table ∷ []
misc_immediates (misc.TableGrow table) = unsigned_32 table ∷ []
misc_immediates (misc.TableSize table) = unsigned_32 table ∷ []
misc_immediates (misc.MemoryDiscard mem) = unsigned_32 mem ∷ []
misc_immediates _ = []
