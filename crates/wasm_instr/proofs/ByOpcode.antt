-- Written by tools/lists.py from tools/operators.tsv.
-- The operators with a one-byte opcode by opcode, except the numeric ones.
use Rattle.std.proofs.Common.{ℕ, List, [], ◌∷◌, get_or}
use Rattle.wasm_imm.specs.declared.select.Select.{Select}
use Rattle.wasm_imm.specs.declared.select.Select.TheVariants as select
use Rattle.wasm_instr.specs.declared.operator.Operator.{Operator}
use Rattle.wasm_instr.specs.declared.operator.Operator.TheVariants as operator
use Rattle.wasm_imm.specs.Immediate.{Immediate}
use Rattle.wasm_imm.proofs.Values.{tail_of, number_in, integer_in, argument_in, heap_type_in, block_type_in, branch_table_in, select_in, try_table_in, resume_table_in}

abbrev select_at : Select → Operator
select_at (select.One ty) = operator.TypedSelect ty
select_at (select.Multi tys) = operator.TypedSelectMulti tys

abbrev makers : List (List Immediate → Operator)
makers =
    (λ is. operator.Unreachable) ∷
    (λ is. operator.Nop) ∷
    (λ is. operator.Block (block_type_in is)) ∷
    (λ is. operator.Loop (block_type_in is)) ∷
    (λ is. operator.If (block_type_in is)) ∷
    (λ is. operator.Else) ∷
    (λ is. operator.Try (block_type_in is)) ∷
    (λ is. operator.Catch (number_in is)) ∷
    (λ is. operator.Throw (number_in is)) ∷
    (λ is. operator.Rethrow (number_in is)) ∷
    (λ is. operator.ThrowRef) ∷
    (λ is. operator.End) ∷
    (λ is. operator.Br (number_in is)) ∷
    (λ is. operator.BrIf (number_in is)) ∷
    (λ is. operator.BrTable (branch_table_in is)) ∷
    (λ is. operator.Return) ∷
    (λ is. operator.Call (number_in is)) ∷
    (λ is. operator.CallIndirect (number_in is) (number_in (tail_of is))) ∷
    (λ is. operator.ReturnCall (number_in is)) ∷
    (λ is. operator.ReturnCallIndirect (number_in is) (number_in (tail_of is))) ∷
    (λ is. operator.CallRef (number_in is)) ∷
    (λ is. operator.ReturnCallRef (number_in is)) ∷
    (λ is. operator.Nop) ∷
    (λ is. operator.Nop) ∷
    (λ is. operator.Delegate (number_in is)) ∷
    (λ is. operator.CatchAll) ∷
    (λ is. operator.Drop) ∷
    (λ is. operator.Select) ∷
    (λ is. select_at (select_in is)) ∷
    (λ is. operator.Nop) ∷
    (λ is. operator.Nop) ∷
    (λ is. operator.TryTable (try_table_in is)) ∷
    (λ is. operator.LocalGet (number_in is)) ∷
    (λ is. operator.LocalSet (number_in is)) ∷
    (λ is. operator.LocalTee (number_in is)) ∷
    (λ is. operator.GlobalGet (number_in is)) ∷
    (λ is. operator.GlobalSet (number_in is)) ∷
    (λ is. operator.TableGet (number_in is)) ∷
    (λ is. operator.TableSet (number_in is)) ∷
    (λ is. operator.Nop) ∷
    (λ is. operator.I32Load (argument_in is)) ∷
    (λ is. operator.I64Load (argument_in is)) ∷
    (λ is. operator.F32Load (argument_in is)) ∷
    (λ is. operator.F64Load (argument_in is)) ∷
    (λ is. operator.I32Load8S (argument_in is)) ∷
    (λ is. operator.I32Load8U (argument_in is)) ∷
    (λ is. operator.I32Load16S (argument_in is)) ∷
    (λ is. operator.I32Load16U (argument_in is)) ∷
    (λ is. operator.I64Load8S (argument_in is)) ∷
    (λ is. operator.I64Load8U (argument_in is)) ∷
    (λ is. operator.I64Load16S (argument_in is)) ∷
    (λ is. operator.I64Load16U (argument_in is)) ∷
    (λ is. operator.I64Load32S (argument_in is)) ∷
    (λ is. operator.I64Load32U (argument_in is)) ∷
    (λ is. operator.I32Store (argument_in is)) ∷
    (λ is. operator.I64Store (argument_in is)) ∷
    (λ is. operator.F32Store (argument_in is)) ∷
    (λ is. operator.F64Store (argument_in is)) ∷
    (λ is. operator.I32Store8 (argument_in is)) ∷
    (λ is. operator.I32Store16 (argument_in is)) ∷
    (λ is. operator.I64Store8 (argument_in is)) ∷
    (λ is. operator.I64Store16 (argument_in is)) ∷
    (λ is. operator.I64Store32 (argument_in is)) ∷
    (λ is. operator.MemorySize (number_in is)) ∷
    (λ is. operator.MemoryGrow (number_in is)) ∷
    (λ is. operator.I32Const (integer_in is)) ∷
    (λ is. operator.I64Const (integer_in is)) ∷
    (λ is. operator.F32Const (number_in is)) ∷
    (λ is. operator.F64Const (number_in is)) ∷
    (λ is. operator.Nop) ∷
    (λ is. operator.Nop) ∷
    (λ is. operator.Nop) ∷
    (λ is. operator.Nop) ∷
    (λ is. operator.Nop) ∷
    (λ is. operator.Nop) ∷
    (λ is. operator.Nop) ∷
    (λ is. operator.Nop) ∷
    (λ is. operator.Nop) ∷
    (λ is. operator.Nop) ∷
    (λ is. operator.Nop) ∷
    (λ is. operator.Nop) ∷
    (λ is. operator.Nop) ∷
    (λ is. operator.Nop) ∷
    (λ is. operator.Nop) ∷
    (λ is. operator.Nop) ∷
    (λ is. operator.Nop) ∷
    (λ is. operator.Nop) ∷
    (λ is. operator.Nop) ∷
    (λ is. operator.Nop) ∷
    (λ is. operator.Nop) ∷
    (λ is. operator.Nop) ∷
    (λ is. operator.Nop) ∷
    (λ is. operator.Nop) ∷
    (λ is. operator.Nop) ∷
    (λ is. operator.Nop) ∷
    (λ is. operator.Nop) ∷
    (λ is. operator.Nop) ∷
    (λ is. operator.Nop) ∷
    (λ is. operator.Nop) ∷
    (λ is. operator.Nop) ∷
    (λ is. operator.Nop) ∷
    (λ is. operator.Nop) ∷
    (λ is. operator.Nop) ∷
    (λ is. operator.Nop) ∷
    (λ is. operator.Nop) ∷
    (λ is. operator.Nop) ∷
    (λ is. operator.Nop) ∷
    (λ is. operator.Nop) ∷
    (λ is. operator.Nop) ∷
    (λ is. operator.Nop) ∷
    (λ is. operator.Nop) ∷
    (λ is. operator.Nop) ∷
    (λ is. operator.Nop) ∷
    (λ is. operator.Nop) ∷
    (λ is. operator.Nop) ∷
    (λ is. operator.Nop) ∷
    (λ is. operator.Nop) ∷
    (λ is. operator.Nop) ∷
    (λ is. operator.Nop) ∷
    (λ is. operator.Nop) ∷
    (λ is. operator.Nop) ∷
    (λ is. operator.Nop) ∷
    (λ is. operator.Nop) ∷
    (λ is. operator.Nop) ∷
    (λ is. operator.Nop) ∷
    (λ is. operator.Nop) ∷
    (λ is. operator.Nop) ∷
    (λ is. operator.Nop) ∷
    (λ is. operator.Nop) ∷
    (λ is. operator.Nop) ∷
    (λ is. operator.Nop) ∷
    (λ is. operator.Nop) ∷
    (λ is. operator.Nop) ∷
    (λ is. operator.Nop) ∷
    (λ is. operator.Nop) ∷
    (λ is. operator.Nop) ∷
    (λ is. operator.Nop) ∷
    (λ is. operator.Nop) ∷
    (λ is. operator.Nop) ∷
    (λ is. operator.Nop) ∷
    (λ is. operator.Nop) ∷
    (λ is. operator.Nop) ∷
    (λ is. operator.Nop) ∷
    (λ is. operator.Nop) ∷
    (λ is. operator.Nop) ∷
    (λ is. operator.Nop) ∷
    (λ is. operator.Nop) ∷
    (λ is. operator.Nop) ∷
    (λ is. operator.Nop) ∷
    (λ is. operator.Nop) ∷
    (λ is. operator.Nop) ∷
    (λ is. operator.Nop) ∷
    (λ is. operator.Nop) ∷
    (λ is. operator.Nop) ∷
    (λ is. operator.Nop) ∷
    (λ is. operator.Nop) ∷
    (λ is. operator.Nop) ∷
    (λ is. operator.Nop) ∷
    (λ is. operator.Nop) ∷
    (λ is. operator.Nop) ∷
    (λ is. operator.Nop) ∷
    (λ is. operator.Nop) ∷
    (λ is. operator.Nop) ∷
    (λ is. operator.Nop) ∷
    (λ is. operator.Nop) ∷
    (λ is. operator.Nop) ∷
    (λ is. operator.Nop) ∷
    (λ is. operator.Nop) ∷
    (λ is. operator.Nop) ∷
    (λ is. operator.Nop) ∷
    (λ is. operator.Nop) ∷
    (λ is. operator.Nop) ∷
    (λ is. operator.Nop) ∷
    (λ is. operator.Nop) ∷
    (λ is. operator.Nop) ∷
    (λ is. operator.Nop) ∷
    (λ is. operator.Nop) ∷
    (λ is. operator.Nop) ∷
    (λ is. operator.Nop) ∷
    (λ is. operator.Nop) ∷
    (λ is. operator.Nop) ∷
    (λ is. operator.Nop) ∷
    (λ is. operator.Nop) ∷
    (λ is. operator.Nop) ∷
    (λ is. operator.Nop) ∷
    (λ is. operator.Nop) ∷
    (λ is. operator.Nop) ∷
    (λ is. operator.Nop) ∷
    (λ is. operator.Nop) ∷
    (λ is. operator.Nop) ∷
    (λ is. operator.Nop) ∷
    (λ is. operator.Nop) ∷
    (λ is. operator.Nop) ∷
    (λ is. operator.Nop) ∷
    (λ is. operator.Nop) ∷
    (λ is. operator.Nop) ∷
    (λ is. operator.Nop) ∷
    (λ is. operator.Nop) ∷
    (λ is. operator.Nop) ∷
    (λ is. operator.Nop) ∷
    (λ is. operator.Nop) ∷
    (λ is. operator.Nop) ∷
    (λ is. operator.Nop) ∷
    (λ is. operator.Nop) ∷
    (λ is. operator.Nop) ∷
    (λ is. operator.Nop) ∷
    (λ is. operator.Nop) ∷
    (λ is. operator.Nop) ∷
    (λ is. operator.RefNull (heap_type_in is)) ∷
    (λ is. operator.RefIsNull) ∷
    (λ is. operator.RefFunc (number_in is)) ∷
    (λ is. operator.RefEq) ∷
    (λ is. operator.RefAsNonNull) ∷
    (λ is. operator.BrOnNull (number_in is)) ∷
    (λ is. operator.BrOnNonNull (number_in is)) ∷
    (λ is. operator.Nop) ∷
    (λ is. operator.Nop) ∷
    (λ is. operator.Nop) ∷
    (λ is. operator.Nop) ∷
    (λ is. operator.Nop) ∷
    (λ is. operator.Nop) ∷
    (λ is. operator.Nop) ∷
    (λ is. operator.Nop) ∷
    (λ is. operator.Nop) ∷
    (λ is. operator.ContNew (number_in is)) ∷
    (λ is. operator.ContBind (number_in is) (number_in (tail_of is))) ∷
    (λ is. operator.Suspend (number_in is)) ∷
    (λ is. operator.Resume (number_in is) (resume_table_in (tail_of is))) ∷
    (λ is. operator.ResumeThrow (number_in is) (number_in (tail_of is)) (resume_table_in (tail_of (tail_of is)))) ∷
    (λ is. operator.ResumeThrowRef (number_in is) (resume_table_in (tail_of is))) ∷
    (λ is. operator.Switch (number_in is) (number_in (tail_of is))) ∷
    []

-- The operator with this opcode, which is not numeric, and these immediates.
abbrev pub own_at : ℕ → List Immediate → Operator
own_at code is = get_or makers code (λ is. operator.Nop) is
