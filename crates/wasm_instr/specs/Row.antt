-- Written by tools/lists.py from tools/operators.tsv.
-- The table of all operators: a function for each column.
-- Specification: Binary Format, Instructions; Appendix, Index of Instructions.
use Rattle.std.specs.Prelude.{ℕ, List, [], ◌∷◌, Option, Some, None, codes}
use Rattle.wasm_imm.specs.declared.memory_argument.MemArgKind.TheVariants as kind
use Rattle.wasm_imm.specs.declared.select.Select.TheVariants as select
use Rattle.wasm_imm.specs.declared.proposal.Proposal.{Proposal}
use Rattle.wasm_imm.specs.declared.proposal.Proposal.TheVariants as proposal
use Rattle.wasm_instr.specs.declared.operator.Operator.{Operator}
use Rattle.wasm_instr.specs.declared.operator.Operator.TheVariants as operator
use Rattle.wasm_instr_ops.specs.Numeric.{numeric_proposal, numeric_name, numeric_opcode, numeric_immediates}
use Rattle.wasm_instr_ops.specs.Gc.{gc_proposal, gc_name, gc_subopcode, gc_immediates}
use Rattle.wasm_instr_ops.specs.Misc.{misc_proposal, misc_name, misc_subopcode, misc_immediates}
use Rattle.wasm_instr_simd.specs.Simd.{simd_proposal, simd_name, simd_subopcode, simd_immediates}
use Rattle.wasm_instr_ops.specs.Atomic.{atomic_proposal, atomic_name, atomic_subopcode, atomic_immediates}
use Rattle.wasm_imm.specs.Immediate.{Immediate, unsigned_32, signed_32, signed_64, float_32, float_64, memory_argument, memory_index, table_index_32, heap_type, block_type, branch_table, select_types, try_clauses, resume_clauses}

-- The operator's proposal.
abbrev pub proposal_of : Operator → Proposal
proposal_of operator.RefEq = proposal.Gc
proposal_of (operator.TypedSelect _) = proposal.ReferenceTypes
proposal_of (operator.TypedSelectMulti _) = proposal.ReferenceTypes
proposal_of (operator.RefNull _) = proposal.ReferenceTypes
proposal_of operator.RefIsNull = proposal.ReferenceTypes
proposal_of (operator.RefFunc _) = proposal.ReferenceTypes
proposal_of (operator.TableGet _) = proposal.ReferenceTypes
proposal_of (operator.TableSet _) = proposal.ReferenceTypes
proposal_of (operator.ReturnCall _) = proposal.TailCall
proposal_of (operator.ReturnCallIndirect _ _) = proposal.TailCall
proposal_of (operator.TryTable _) = proposal.Exceptions
proposal_of (operator.Throw _) = proposal.Exceptions
proposal_of operator.ThrowRef = proposal.Exceptions
proposal_of (operator.Try _) = proposal.LegacyExceptions
proposal_of (operator.Catch _) = proposal.LegacyExceptions
proposal_of (operator.Rethrow _) = proposal.LegacyExceptions
proposal_of (operator.Delegate _) = proposal.LegacyExceptions
proposal_of operator.CatchAll = proposal.LegacyExceptions
proposal_of (operator.CallRef _) = proposal.FunctionReferences
proposal_of (operator.ReturnCallRef _) = proposal.FunctionReferences
proposal_of operator.RefAsNonNull = proposal.FunctionReferences
proposal_of (operator.BrOnNull _) = proposal.FunctionReferences
proposal_of (operator.BrOnNonNull _) = proposal.FunctionReferences
proposal_of (operator.ContNew _) = proposal.StackSwitching
proposal_of (operator.ContBind _ _) = proposal.StackSwitching
proposal_of (operator.Suspend _) = proposal.StackSwitching
proposal_of (operator.Resume _ _) = proposal.StackSwitching
proposal_of (operator.ResumeThrow _ _ _) = proposal.StackSwitching
proposal_of (operator.ResumeThrowRef _ _) = proposal.StackSwitching
proposal_of (operator.Switch _ _) = proposal.StackSwitching
proposal_of (operator.Numeric op) = numeric_proposal op
proposal_of (operator.Gc op) = gc_proposal op
proposal_of (operator.Misc op) = misc_proposal op
proposal_of (operator.Simd op) = simd_proposal op
proposal_of (operator.Atomic op) = atomic_proposal op
proposal_of _ = proposal.Mvp

-- The variant's name.
abbrev pub name_of : Operator → List ℕ
name_of operator.Unreachable = codes "Unreachable"
name_of operator.Nop = codes "Nop"
name_of (operator.Block _) = codes "Block"
name_of (operator.Loop _) = codes "Loop"
name_of (operator.If _) = codes "If"
name_of operator.Else = codes "Else"
name_of operator.End = codes "End"
name_of (operator.Br _) = codes "Br"
name_of (operator.BrIf _) = codes "BrIf"
name_of (operator.BrTable _) = codes "BrTable"
name_of operator.Return = codes "Return"
name_of (operator.Call _) = codes "Call"
name_of (operator.CallIndirect _ _) = codes "CallIndirect"
name_of operator.Drop = codes "Drop"
name_of operator.Select = codes "Select"
name_of (operator.LocalGet _) = codes "LocalGet"
name_of (operator.LocalSet _) = codes "LocalSet"
name_of (operator.LocalTee _) = codes "LocalTee"
name_of (operator.GlobalGet _) = codes "GlobalGet"
name_of (operator.GlobalSet _) = codes "GlobalSet"
name_of (operator.I32Load _) = codes "I32Load"
name_of (operator.I64Load _) = codes "I64Load"
name_of (operator.F32Load _) = codes "F32Load"
name_of (operator.F64Load _) = codes "F64Load"
name_of (operator.I32Load8S _) = codes "I32Load8S"
name_of (operator.I32Load8U _) = codes "I32Load8U"
name_of (operator.I32Load16S _) = codes "I32Load16S"
name_of (operator.I32Load16U _) = codes "I32Load16U"
name_of (operator.I64Load8S _) = codes "I64Load8S"
name_of (operator.I64Load8U _) = codes "I64Load8U"
name_of (operator.I64Load16S _) = codes "I64Load16S"
name_of (operator.I64Load16U _) = codes "I64Load16U"
name_of (operator.I64Load32S _) = codes "I64Load32S"
name_of (operator.I64Load32U _) = codes "I64Load32U"
name_of (operator.I32Store _) = codes "I32Store"
name_of (operator.I64Store _) = codes "I64Store"
name_of (operator.F32Store _) = codes "F32Store"
name_of (operator.F64Store _) = codes "F64Store"
name_of (operator.I32Store8 _) = codes "I32Store8"
name_of (operator.I32Store16 _) = codes "I32Store16"
name_of (operator.I64Store8 _) = codes "I64Store8"
name_of (operator.I64Store16 _) = codes "I64Store16"
name_of (operator.I64Store32 _) = codes "I64Store32"
name_of (operator.MemorySize _) = codes "MemorySize"
name_of (operator.MemoryGrow _) = codes "MemoryGrow"
name_of (operator.I32Const _) = codes "I32Const"
name_of (operator.I64Const _) = codes "I64Const"
name_of (operator.F32Const _) = codes "F32Const"
name_of (operator.F64Const _) = codes "F64Const"
name_of operator.RefEq = codes "RefEq"
name_of (operator.TypedSelect _) = codes "TypedSelect"
name_of (operator.TypedSelectMulti _) = codes "TypedSelectMulti"
name_of (operator.RefNull _) = codes "RefNull"
name_of operator.RefIsNull = codes "RefIsNull"
name_of (operator.RefFunc _) = codes "RefFunc"
name_of (operator.TableGet _) = codes "TableGet"
name_of (operator.TableSet _) = codes "TableSet"
name_of (operator.ReturnCall _) = codes "ReturnCall"
name_of (operator.ReturnCallIndirect _ _) = codes "ReturnCallIndirect"
name_of (operator.TryTable _) = codes "TryTable"
name_of (operator.Throw _) = codes "Throw"
name_of operator.ThrowRef = codes "ThrowRef"
name_of (operator.Try _) = codes "Try"
name_of (operator.Catch _) = codes "Catch"
name_of (operator.Rethrow _) = codes "Rethrow"
name_of (operator.Delegate _) = codes "Delegate"
name_of operator.CatchAll = codes "CatchAll"
name_of (operator.CallRef _) = codes "CallRef"
name_of (operator.ReturnCallRef _) = codes "ReturnCallRef"
name_of operator.RefAsNonNull = codes "RefAsNonNull"
name_of (operator.BrOnNull _) = codes "BrOnNull"
name_of (operator.BrOnNonNull _) = codes "BrOnNonNull"
name_of (operator.ContNew _) = codes "ContNew"
name_of (operator.ContBind _ _) = codes "ContBind"
name_of (operator.Suspend _) = codes "Suspend"
name_of (operator.Resume _ _) = codes "Resume"
name_of (operator.ResumeThrow _ _ _) = codes "ResumeThrow"
name_of (operator.ResumeThrowRef _ _) = codes "ResumeThrowRef"
name_of (operator.Switch _ _) = codes "Switch"
name_of (operator.Numeric op) = numeric_name op
name_of (operator.Gc op) = gc_name op
name_of (operator.Misc op) = misc_name op
name_of (operator.Simd op) = simd_name op
name_of (operator.Atomic op) = atomic_name op

-- The prefix byte, if the operator has one.
abbrev pub prefix_of : Operator → Option ℕ
prefix_of (operator.Gc _) = Some 0xfb
prefix_of (operator.Misc _) = Some 0xfc
prefix_of (operator.Simd _) = Some 0xfd
prefix_of (operator.Atomic _) = Some 0xfe
prefix_of _ = None

-- The opcode, or the subopcode after a prefix byte.
abbrev pub opcode_of : Operator → ℕ
opcode_of operator.Unreachable = 0x00
opcode_of operator.Nop = 0x01
opcode_of (operator.Block _) = 0x02
opcode_of (operator.Loop _) = 0x03
opcode_of (operator.If _) = 0x04
opcode_of operator.Else = 0x05
opcode_of operator.End = 0x0b
opcode_of (operator.Br _) = 0x0c
opcode_of (operator.BrIf _) = 0x0d
opcode_of (operator.BrTable _) = 0x0e
opcode_of operator.Return = 0x0f
opcode_of (operator.Call _) = 0x10
opcode_of (operator.CallIndirect _ _) = 0x11
opcode_of operator.Drop = 0x1a
opcode_of operator.Select = 0x1b
opcode_of (operator.LocalGet _) = 0x20
opcode_of (operator.LocalSet _) = 0x21
opcode_of (operator.LocalTee _) = 0x22
opcode_of (operator.GlobalGet _) = 0x23
opcode_of (operator.GlobalSet _) = 0x24
opcode_of (operator.I32Load _) = 0x28
opcode_of (operator.I64Load _) = 0x29
opcode_of (operator.F32Load _) = 0x2a
opcode_of (operator.F64Load _) = 0x2b
opcode_of (operator.I32Load8S _) = 0x2c
opcode_of (operator.I32Load8U _) = 0x2d
opcode_of (operator.I32Load16S _) = 0x2e
opcode_of (operator.I32Load16U _) = 0x2f
opcode_of (operator.I64Load8S _) = 0x30
opcode_of (operator.I64Load8U _) = 0x31
opcode_of (operator.I64Load16S _) = 0x32
opcode_of (operator.I64Load16U _) = 0x33
opcode_of (operator.I64Load32S _) = 0x34
opcode_of (operator.I64Load32U _) = 0x35
opcode_of (operator.I32Store _) = 0x36
opcode_of (operator.I64Store _) = 0x37
opcode_of (operator.F32Store _) = 0x38
opcode_of (operator.F64Store _) = 0x39
opcode_of (operator.I32Store8 _) = 0x3a
opcode_of (operator.I32Store16 _) = 0x3b
opcode_of (operator.I64Store8 _) = 0x3c
opcode_of (operator.I64Store16 _) = 0x3d
opcode_of (operator.I64Store32 _) = 0x3e
opcode_of (operator.MemorySize _) = 0x3f
opcode_of (operator.MemoryGrow _) = 0x40
opcode_of (operator.I32Const _) = 0x41
opcode_of (operator.I64Const _) = 0x42
opcode_of (operator.F32Const _) = 0x43
opcode_of (operator.F64Const _) = 0x44
opcode_of operator.RefEq = 0xd3
opcode_of (operator.TypedSelect _) = 0x1c
opcode_of (operator.TypedSelectMulti _) = 0x1c
opcode_of (operator.RefNull _) = 0xd0
opcode_of operator.RefIsNull = 0xd1
opcode_of (operator.RefFunc _) = 0xd2
opcode_of (operator.TableGet _) = 0x25
opcode_of (operator.TableSet _) = 0x26
opcode_of (operator.ReturnCall _) = 0x12
opcode_of (operator.ReturnCallIndirect _ _) = 0x13
opcode_of (operator.TryTable _) = 0x1f
opcode_of (operator.Throw _) = 0x08
opcode_of operator.ThrowRef = 0x0a
opcode_of (operator.Try _) = 0x06
opcode_of (operator.Catch _) = 0x07
opcode_of (operator.Rethrow _) = 0x09
opcode_of (operator.Delegate _) = 0x18
opcode_of operator.CatchAll = 0x19
opcode_of (operator.CallRef _) = 0x14
opcode_of (operator.ReturnCallRef _) = 0x15
opcode_of operator.RefAsNonNull = 0xd4
opcode_of (operator.BrOnNull _) = 0xd5
opcode_of (operator.BrOnNonNull _) = 0xd6
opcode_of (operator.ContNew _) = 0xe0
opcode_of (operator.ContBind _ _) = 0xe1
opcode_of (operator.Suspend _) = 0xe2
opcode_of (operator.Resume _ _) = 0xe3
opcode_of (operator.ResumeThrow _ _ _) = 0xe4
opcode_of (operator.ResumeThrowRef _ _) = 0xe5
opcode_of (operator.Switch _ _) = 0xe6
opcode_of (operator.Numeric op) = numeric_opcode op
opcode_of (operator.Gc op) = gc_subopcode op
opcode_of (operator.Misc op) = misc_subopcode op
opcode_of (operator.Simd op) = simd_subopcode op
opcode_of (operator.Atomic op) = atomic_subopcode op

-- The immediates in the order of the binary format, with their values.
abbrev pub immediates_of : Operator → List Immediate
immediates_of (operator.Block blockty) = block_type blockty ∷ []
immediates_of (operator.Loop blockty) = block_type blockty ∷ []
immediates_of (operator.If blockty) = block_type blockty ∷ []
immediates_of (operator.Br relative_depth) = unsigned_32 relative_depth ∷ []
immediates_of (operator.BrIf relative_depth) = unsigned_32 relative_depth ∷ []
immediates_of (operator.BrTable targets) = branch_table targets ∷ []
immediates_of (operator.Call function_index) = unsigned_32 function_index ∷ []
immediates_of (operator.CallIndirect type_index table_index) = unsigned_32 type_index ∷ table_index_32 table_index ∷ []
immediates_of (operator.LocalGet local_index) = unsigned_32 local_index ∷ []
immediates_of (operator.LocalSet local_index) = unsigned_32 local_index ∷ []
immediates_of (operator.LocalTee local_index) = unsigned_32 local_index ∷ []
immediates_of (operator.GlobalGet global_index) = unsigned_32 global_index ∷ []
immediates_of (operator.GlobalSet global_index) = unsigned_32 global_index ∷ []
immediates_of (operator.I32Load memarg) = memory_argument kind.Plain 2 memarg ∷ []
immediates_of (operator.I64Load memarg) = memory_argument kind.Plain 3 memarg ∷ []
immediates_of (operator.F32Load memarg) = memory_argument kind.Plain 2 memarg ∷ []
immediates_of (operator.F64Load memarg) = memory_argument kind.Plain 3 memarg ∷ []
immediates_of (operator.I32Load8S memarg) = memory_argument kind.Plain 0 memarg ∷ []
immediates_of (operator.I32Load8U memarg) = memory_argument kind.Plain 0 memarg ∷ []
immediates_of (operator.I32Load16S memarg) = memory_argument kind.Plain 1 memarg ∷ []
immediates_of (operator.I32Load16U memarg) = memory_argument kind.Plain 1 memarg ∷ []
immediates_of (operator.I64Load8S memarg) = memory_argument kind.Plain 0 memarg ∷ []
immediates_of (operator.I64Load8U memarg) = memory_argument kind.Plain 0 memarg ∷ []
immediates_of (operator.I64Load16S memarg) = memory_argument kind.Plain 1 memarg ∷ []
immediates_of (operator.I64Load16U memarg) = memory_argument kind.Plain 1 memarg ∷ []
immediates_of (operator.I64Load32S memarg) = memory_argument kind.Plain 2 memarg ∷ []
immediates_of (operator.I64Load32U memarg) = memory_argument kind.Plain 2 memarg ∷ []
immediates_of (operator.I32Store memarg) = memory_argument kind.Plain 2 memarg ∷ []
immediates_of (operator.I64Store memarg) = memory_argument kind.Plain 3 memarg ∷ []
immediates_of (operator.F32Store memarg) = memory_argument kind.Plain 2 memarg ∷ []
immediates_of (operator.F64Store memarg) = memory_argument kind.Plain 3 memarg ∷ []
immediates_of (operator.I32Store8 memarg) = memory_argument kind.Plain 0 memarg ∷ []
immediates_of (operator.I32Store16 memarg) = memory_argument kind.Plain 1 memarg ∷ []
immediates_of (operator.I64Store8 memarg) = memory_argument kind.Plain 0 memarg ∷ []
immediates_of (operator.I64Store16 memarg) = memory_argument kind.Plain 1 memarg ∷ []
immediates_of (operator.I64Store32 memarg) = memory_argument kind.Plain 2 memarg ∷ []
immediates_of (operator.MemorySize mem) = memory_index mem ∷ []
immediates_of (operator.MemoryGrow mem) = memory_index mem ∷ []
immediates_of (operator.I32Const value) = signed_32 value ∷ []
immediates_of (operator.I64Const value) = signed_64 value ∷ []
immediates_of (operator.F32Const value) = float_32 value ∷ []
immediates_of (operator.F64Const value) = float_64 value ∷ []
immediates_of (operator.TypedSelect ty) = select_types (select.One ty) ∷ []
immediates_of (operator.TypedSelectMulti tys) = select_types (select.Multi tys) ∷ []
immediates_of (operator.RefNull hty) = heap_type hty ∷ []
immediates_of (operator.RefFunc function_index) = unsigned_32 function_index ∷ []
immediates_of (operator.TableGet table) = unsigned_32 table ∷ []
immediates_of (operator.TableSet table) = unsigned_32 table ∷ []
immediates_of (operator.ReturnCall function_index) = unsigned_32 function_index ∷ []
immediates_of (operator.ReturnCallIndirect type_index table_index) = unsigned_32 type_index ∷ unsigned_32 table_index ∷ []
immediates_of (operator.TryTable try_table) = try_clauses try_table ∷ []
immediates_of (operator.Throw tag_index) = unsigned_32 tag_index ∷ []
immediates_of (operator.Try blockty) = block_type blockty ∷ []
immediates_of (operator.Catch tag_index) = unsigned_32 tag_index ∷ []
immediates_of (operator.Rethrow relative_depth) = unsigned_32 relative_depth ∷ []
immediates_of (operator.Delegate relative_depth) = unsigned_32 relative_depth ∷ []
immediates_of (operator.CallRef type_index) = unsigned_32 type_index ∷ []
immediates_of (operator.ReturnCallRef type_index) = unsigned_32 type_index ∷ []
immediates_of (operator.BrOnNull relative_depth) = unsigned_32 relative_depth ∷ []
immediates_of (operator.BrOnNonNull relative_depth) = unsigned_32 relative_depth ∷ []
immediates_of (operator.ContNew cont_type_index) = unsigned_32 cont_type_index ∷ []
immediates_of (operator.ContBind argument_index result_index) = unsigned_32 argument_index ∷ unsigned_32 result_index ∷ []
immediates_of (operator.Suspend tag_index) = unsigned_32 tag_index ∷ []
immediates_of (operator.Resume cont_type_index resume_table) = unsigned_32 cont_type_index ∷ resume_clauses resume_table ∷ []
immediates_of (operator.ResumeThrow cont_type_index tag_index resume_table) = unsigned_32 cont_type_index ∷ unsigned_32 tag_index ∷ resume_clauses resume_table ∷ []
immediates_of (operator.ResumeThrowRef cont_type_index resume_table) = unsigned_32 cont_type_index ∷ resume_clauses resume_table ∷ []
immediates_of (operator.Switch cont_type_index tag_index) = unsigned_32 cont_type_index ∷ unsigned_32 tag_index ∷ []
immediates_of (operator.Numeric op) = numeric_immediates op
immediates_of (operator.Gc op) = gc_immediates op
immediates_of (operator.Misc op) = misc_immediates op
immediates_of (operator.Simd op) = simd_immediates op
immediates_of (operator.Atomic op) = atomic_immediates op
immediates_of _ = []
