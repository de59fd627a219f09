-- Written by tools/lists.py from tools/operators.tsv.
use Rattle.std.proofs.Common.{◌≡◌, ℕ, List, [], ◌∷◌, map, get_or, refl}
use Rattle.wasm_instr_ops.specs.declared.misc.MiscOperator.{MiscOperator}
use Rattle.wasm_instr_ops.specs.declared.misc.MiscOperator.TheVariants as misc
use Rattle.wasm_instr_ops.specs.Misc.{misc_name, misc_subopcode, misc_immediates}
use Rattle.wasm_imm.specs.Immediate.{Immediate, kind_of}
use Rattle.wasm_imm.proofs.Values.{tail_of, number_in}

abbrev makers : List (List Immediate → MiscOperator)
makers =
    (λ is. misc.I32TruncSatF32S) ∷
    (λ is. misc.I32TruncSatF32U) ∷
    (λ is. misc.I32TruncSatF64S) ∷
    (λ is. misc.I32TruncSatF64U) ∷
    (λ is. misc.I64TruncSatF32S) ∷
    (λ is. misc.I64TruncSatF32U) ∷
    (λ is. misc.I64TruncSatF64S) ∷
    (λ is. misc.I64TruncSatF64U) ∷
    (λ is. misc.MemoryInit (number_in is) (number_in (tail_of is))) ∷
    (λ is. misc.DataDrop (number_in is)) ∷
    (λ is. misc.MemoryCopy (number_in is) (number_in (tail_of is))) ∷
    (λ is. misc.MemoryFill (number_in is)) ∷
    (λ is. misc.TableInit (number_in is) (number_in (tail_of is))) ∷
    (λ is. misc.ElemDrop (number_in is)) ∷
    (λ is. misc.TableCopy (number_in is) (number_in (tail_of is))) ∷
    (λ is. misc.TableGrow (number_in is)) ∷
    (λ is. misc.TableSize (number_in is)) ∷
    (λ is. misc.TableFill (number_in is)) ∷
    (λ is. misc.MemoryDiscard (number_in is)) ∷
    (λ is. misc.I64Add128) ∷
    (λ is. misc.I64Sub128) ∷
    (λ is. misc.I64MulWideS) ∷
    (λ is. misc.I64MulWideU) ∷
    []

abbrev pub misc_at : ℕ → List Immediate → MiscOperator
misc_at code is = get_or makers code (λ is. misc.I32TruncSatF32S) is

pub misc_by_opcode : (op : MiscOperator) → misc_at (misc_subopcode op) (misc_immediates op) ≡ op
misc_by_opcode misc.I32TruncSatF32S = refl
misc_by_opcode op = refl

pub misc_kinds : (op : MiscOperator) → map kind_of (misc_immediates op) ≡ map kind_of (misc_immediates (misc_at (misc_subopcode op) []))
misc_kinds misc.I32TruncSatF32S = refl
misc_kinds op = refl

pub misc_named : (op : MiscOperator) → misc_name op ≡ misc_name (misc_at (misc_subopcode op) [])
misc_named misc.I32TruncSatF32S = refl
misc_named op = refl
