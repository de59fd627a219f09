-- Written by tools/lists.py from tools/operators.tsv.
use Rattle.std.proofs.Common.{◌≡◌, ℕ, List, [], ◌∷◌, map, get_or, refl}
use Rattle.wasm_instr_ops.specs.declared.gc.GcOperator.{GcOperator}
use Rattle.wasm_instr_ops.specs.declared.gc.GcOperator.TheVariants as gc
use Rattle.wasm_instr_ops.specs.Gc.{gc_name, gc_subopcode, gc_immediates}
use Rattle.wasm_imm.specs.Immediate.{Immediate, kind_of}
use Rattle.wasm_imm.proofs.Values.{tail_of, number_in, heap_type_in, depth_in, from_in, to_in}

abbrev makers : List (List Immediate → GcOperator)
makers =
    (λ is. gc.StructNew (number_in is)) ∷
    (λ is. gc.StructNewDefault (number_in is)) ∷
    (λ is. gc.StructGet (number_in is) (number_in (tail_of is))) ∷
    (λ is. gc.StructGetS (number_in is) (number_in (tail_of is))) ∷
    (λ is. gc.StructGetU (number_in is) (number_in (tail_of is))) ∷
    (λ is. gc.StructSet (number_in is) (number_in (tail_of is))) ∷
    (λ is. gc.ArrayNew (number_in is)) ∷
    (λ is. gc.ArrayNewDefault (number_in is)) ∷
    (λ is. gc.ArrayNewFixed (number_in is) (number_in (tail_of is))) ∷
    (λ is. gc.ArrayNewData (number_in is) (number_in (tail_of is))) ∷
    (λ is. gc.ArrayNewElem (number_in is) (number_in (tail_of is))) ∷
    (λ is. gc.ArrayGet (number_in is)) ∷
    (λ is. gc.ArrayGetS (number_in is)) ∷
    (λ is. gc.ArrayGetU (number_in is)) ∷
    (λ is. gc.ArraySet (number_in is)) ∷
    (λ is. gc.ArrayLen) ∷
    (λ is. gc.ArrayFill (number_in is)) ∷
    (λ is. gc.ArrayCopy (number_in is) (number_in (tail_of is))) ∷
    (λ is. gc.ArrayInitData (number_in is) (number_in (tail_of is))) ∷
    (λ is. gc.ArrayInitElem (number_in is) (number_in (tail_of is))) ∷
    (λ is. gc.RefTestNonNull (heap_type_in is)) ∷
    (λ is. gc.RefTestNullable (heap_type_in is)) ∷
    (λ is. gc.RefCastNonNull (heap_type_in is)) ∷
    (λ is. gc.RefCastNullable (heap_type_in is)) ∷
    (λ is. gc.BrOnCast (depth_in is) (from_in is) (to_in is)) ∷
    (λ is. gc.BrOnCastFail (depth_in is) (from_in is) (to_in is)) ∷
    (λ is. gc.AnyConvertExtern) ∷
    (λ is. gc.ExternConvertAny) ∷
    (λ is. gc.RefI31) ∷
    (λ is. gc.I31GetS) ∷
    (λ is. gc.I31GetU) ∷
    (λ is. gc.StructNew (number_in is)) ∷
    (λ is. gc.StructNewDesc (number_in is)) ∷
    (λ is. gc.StructNewDefaultDesc (number_in is)) ∷
    (λ is. gc.RefGetDesc (number_in is)) ∷
    (λ is. gc.RefCastDescEqNonNull (heap_type_in is)) ∷
    (λ is. gc.RefCastDescEqNullable (heap_type_in is)) ∷
    (λ is. gc.BrOnCastDescEq (depth_in is) (from_in is) (to_in is)) ∷
    (λ is. gc.BrOnCastDescEqFail (depth_in is) (from_in is) (to_in is)) ∷
    []

abbrev pub gc_at : ℕ → List Immediate → GcOperator
gc_at code is = get_or makers code (λ is. gc.StructNew (number_in is)) is

pub gc_by_opcode : (op : GcOperator) → gc_at (gc_subopcode op) (gc_immediates op) ≡ op
gc_by_opcode (gc.StructNew struct_type_index) = refl
gc_by_opcode op = refl

pub gc_kinds : (op : GcOperator) → map kind_of (gc_immediates op) ≡ map kind_of (gc_immediates (gc_at (gc_subopcode op) []))
gc_kinds (gc.StructNew struct_type_index) = refl
gc_kinds op = refl

pub gc_named : (op : GcOperator) → gc_name op ≡ gc_name (gc_at (gc_subopcode op) [])
gc_named (gc.StructNew struct_type_index) = refl
gc_named op = refl
