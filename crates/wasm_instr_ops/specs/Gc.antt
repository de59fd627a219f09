-- Written by tools/lists.py from tools/operators.tsv.
-- The table of the operators with the prefix byte 0xfb: a function for each column.
-- Specification: Binary Format, Aggregate Instructions; proposal custom descriptors.
use Rattle.std.specs.Prelude.{ℕ, List, [], ◌∷◌, codes}
use Rattle.wasm_imm.specs.declared.proposal.Proposal.{Proposal}
use Rattle.wasm_imm.specs.declared.proposal.Proposal.TheVariants as proposal
use Rattle.wasm_instr_ops.specs.declared.gc.GcOperator.{GcOperator}
use Rattle.wasm_instr_ops.specs.declared.gc.GcOperator.TheVariants as gc
use Rattle.wasm_imm.specs.Immediate.{Immediate, unsigned_32, heap_type, cast}

-- The operator's proposal.
abbrev pub gc_proposal : GcOperator → Proposal
gc_proposal (gc.StructNewDesc _) = proposal.CustomDescriptors
gc_proposal (gc.StructNewDefaultDesc _) = proposal.CustomDescriptors
gc_proposal (gc.RefGetDesc _) = proposal.CustomDescriptors
gc_proposal (gc.RefCastDescEqNonNull _) = proposal.CustomDescriptors
gc_proposal (gc.RefCastDescEqNullable _) = proposal.CustomDescriptors
gc_proposal (gc.BrOnCastDescEq _ _ _) = proposal.CustomDescriptors
gc_proposal (gc.BrOnCastDescEqFail _ _ _) = proposal.CustomDescriptors
gc_proposal _ = proposal.Gc

-- The variant's name.
abbrev pub gc_name : GcOperator → List ℕ
gc_name (gc.StructNew _) = codes "StructNew"
gc_name (gc.StructNewDefault _) = codes "StructNewDefault"
gc_name (gc.StructGet _ _) = codes "StructGet"
gc_name (gc.StructGetS _ _) = codes "StructGetS"
gc_name (gc.StructGetU _ _) = codes "StructGetU"
gc_name (gc.StructSet _ _) = codes "StructSet"
gc_name (gc.ArrayNew _) = codes "ArrayNew"
gc_name (gc.ArrayNewDefault _) = codes "ArrayNewDefault"
gc_name (gc.ArrayNewFixed _ _) = codes "ArrayNewFixed"
gc_name (gc.ArrayNewData _ _) = codes "ArrayNewData"
gc_name (gc.ArrayNewElem _ _) = codes "ArrayNewElem"
gc_name (gc.ArrayGet _) = codes "ArrayGet"
gc_name (gc.ArrayGetS _) = codes "ArrayGetS"
gc_name (gc.ArrayGetU _) = codes "ArrayGetU"
gc_name (gc.ArraySet _) = codes "ArraySet"
gc_name gc.ArrayLen = codes "ArrayLen"
gc_name (gc.ArrayFill _) = codes "ArrayFill"
gc_name (gc.ArrayCopy _ _) = codes "ArrayCopy"
gc_name (gc.ArrayInitData _ _) = codes "ArrayInitData"
gc_name (gc.ArrayInitElem _ _) = codes "ArrayInitElem"
gc_name (gc.RefTestNonNull _) = codes "RefTestNonNull"
gc_name (gc.RefTestNullable _) = codes "RefTestNullable"
gc_name (gc.RefCastNonNull _) = codes "RefCastNonNull"
gc_name (gc.RefCastNullable _) = codes "RefCastNullable"
gc_name (gc.BrOnCast _ _ _) = codes "BrOnCast"
gc_name (gc.BrOnCastFail _ _ _) = codes "BrOnCastFail"
gc_name gc.AnyConvertExtern = codes "AnyConvertExtern"
gc_name gc.ExternConvertAny = codes "ExternConvertAny"
gc_name gc.RefI31 = codes "RefI31"
gc_name gc.I31GetS = codes "I31GetS"
gc_name gc.I31GetU = codes "I31GetU"
gc_name (gc.StructNewDesc _) = codes "StructNewDesc"
gc_name (gc.StructNewDefaultDesc _) = codes "StructNewDefaultDesc"
gc_name (gc.RefGetDesc _) = codes "RefGetDesc"
gc_name (gc.RefCastDescEqNonNull _) = codes "RefCastDescEqNonNull"
gc_name (gc.RefCastDescEqNullable _) = codes "RefCastDescEqNullable"
gc_name (gc.BrOnCastDescEq _ _ _) = codes "BrOnCastDescEq"
gc_name (gc.BrOnCastDescEqFail _ _ _) = codes "BrOnCastDescEqFail"

-- The subopcode.
abbrev pub gc_subopcode : GcOperator → ℕ
gc_subopcode (gc.StructNew _) = 0x00
gc_subopcode (gc.StructNewDefault _) = 0x01
gc_subopcode (gc.StructGet _ _) = 0x02
gc_subopcode (gc.StructGetS _ _) = 0x03
gc_subopcode (gc.StructGetU _ _) = 0x04
gc_subopcode (gc.StructSet _ _) = 0x05
gc_subopcode (gc.ArrayNew _) = 0x06
gc_subopcode (gc.ArrayNewDefault _) = 0x07
gc_subopcode (gc.ArrayNewFixed _ _) = 0x08
gc_subopcode (gc.ArrayNewData _ _) = 0x09
gc_subopcode (gc.ArrayNewElem _ _) = 0x0a
gc_subopcode (gc.ArrayGet _) = 0x0b
gc_subopcode (gc.ArrayGetS _) = 0x0c
gc_subopcode (gc.ArrayGetU _) = 0x0d
gc_subopcode (gc.ArraySet _) = 0x0e
gc_subopcode gc.ArrayLen = 0x0f
gc_subopcode (gc.ArrayFill _) = 0x10
gc_subopcode (gc.ArrayCopy _ _) = 0x11
gc_subopcode (gc.ArrayInitData _ _) = 0x12
gc_subopcode (gc.ArrayInitElem _ _) = 0x13
gc_subopcode (gc.RefTestNonNull _) = 0x14
gc_subopcode (gc.RefTestNullable _) = 0x15
gc_subopcode (gc.RefCastNonNull _) = 0x16
gc_subopcode (gc.RefCastNullable _) = 0x17
gc_subopcode (gc.BrOnCast _ _ _) = 0x18
gc_subopcode (gc.BrOnCastFail _ _ _) = 0x19
gc_subopcode gc.AnyConvertExtern = 0x1a
gc_subopcode gc.ExternConvertAny = 0x1b
gc_subopcode gc.RefI31 = 0x1c
gc_subopcode gc.I31GetS = 0x1d
gc_subopcode gc.I31GetU = 0x1e
gc_subopcode (gc.StructNewDesc _) = 0x20
gc_subopcode (gc.StructNewDefaultDesc _) = 0x21
gc_subopcode (gc.RefGetDesc _) = 0x22
gc_subopcode (gc.RefCastDescEqNonNull _) = 0x23
gc_subopcode (gc.RefCastDescEqNullable _) = 0x24
gc_subopcode (gc.BrOnCastDescEq _ _ _) = 0x25
gc_subopcode (gc.BrOnCastDescEqFail _ _ _) = 0x26

abbrev pub gc_immediates : GcOperator → List Immediate
gc_immediates (gc.StructNew struct_type_index) = unsigned_32 struct_type_index ∷ []
gc_immediates (gc.StructNewDefault struct_type_index) = unsigned_32 struct_type_index ∷ []
gc_immediates (gc.StructGet struct_type_index field_index) = unsigned_32 struct_type_index ∷ unsigned_32 field_index ∷ []
gc_immediates (gc.StructGetS struct_type_index field_index) = unsigned_32 struct_type_index ∷ unsigned_32 field_index ∷ []
gc_immediates (gc.StructGetU struct_type_index field_index) = unsigned_32 struct_type_index ∷ unsigned_32 field_index ∷ []
gc_immediates (gc.StructSet struct_type_index field_index) = unsigned_32 struct_type_index ∷ unsigned_32 field_index ∷ []
gc_immediates (gc.ArrayNew array_type_index) = unsigned_32 array_type_index ∷ []
gc_immediates (gc.ArrayNewDefault array_type_index) = unsigned_32 array_type_index ∷ []
gc_immediates (gc.ArrayNewFixed array_type_index array_size) = unsigned_32 array_type_index ∷ unsigned_32 array_size ∷ []
gc_immediates (gc.ArrayNewData array_type_index array_data_index) = unsigned_32 array_type_index ∷ unsigned_32 array_data_index ∷ []
gc_immediates (gc.ArrayNewElem array_type_index array_elem_index) = unsigned_32 array_type_index ∷ unsigned_32 array_elem_index ∷ []
gc_immediates (gc.ArrayGet array_type_index) = unsigned_32 array_type_index ∷ []
gc_immediates (gc.ArrayGetS array_type_index) = unsigned_32 array_type_index ∷ []
gc_immediates (gc.ArrayGetU array_type_index) = unsigned_32 array_type_index ∷ []
gc_immediates (gc.ArraySet array_type_index) = unsigned_32 array_type_index ∷ []
gc_immediates (gc.ArrayFill array_type_index) = unsigned_32 array_type_index ∷ []
gc_immediates (gc.ArrayCopy array_type_index_dst array_type_index_src) = unsigned_32 array_type_index_dst ∷ unsigned_32 array_type_index_src ∷ []
gc_immediates (gc.ArrayInitData array_type_index array_data_index) = unsigned_32 array_type_index ∷ unsigned_32 array_data_index ∷ []
gc_immediates (gc.ArrayInitElem array_type_index array_elem_index) = unsigned_32 array_type_index ∷ unsigned_32 array_elem_index ∷ []
gc_immediates (gc.RefTestNonNull hty) = heap_type hty ∷ []
gc_immediates (gc.RefTestNullable hty) = heap_type hty ∷ []
gc_immediates (gc.RefCastNonNull hty) = heap_type hty ∷ []
gc_immediates (gc.RefCastNullable hty) = heap_type hty ∷ []
gc_immediates (gc.BrOnCast relative_depth from_ref_type to_ref_type) = cast (record { relative_depth = relative_depth; from = from_ref_type; to = to_ref_type }) ∷ []
gc_immediates (gc.BrOnCastFail relative_depth from_ref_type to_ref_type) = cast (record { relative_depth = relative_depth; from = from_ref_type; to = to_ref_type }) ∷ []
gc_immediates (gc.StructNewDesc struct_type_index) = unsigned_32 struct_type_index ∷ []
gc_immediates (gc.StructNewDefaultDesc struct_type_index) = unsigned_32 struct_type_index ∷ []
gc_immediates (gc.RefGetDesc type_index) = unsigned_32 type_index ∷ []
gc_immediates (gc.RefCastDescEqNonNull hty) = heap_type hty ∷ []
gc_immediates (gc.RefCastDescEqNullable hty) = heap_type hty ∷ []
gc_immediates (gc.BrOnCastDescEq relative_depth from_ref_type to_ref_type) = cast (record { relative_depth = relative_depth; from = from_ref_type; to = to_ref_type }) ∷ []
gc_immediates (gc.BrOnCastDescEqFail relative_depth from_ref_type to_ref_type) = cast (record { relative_depth = relative_depth; from = from_ref_type; to = to_ref_type }) ∷ []
gc_immediates _ = []
