-- Written by tools/lists.py from tools/operators.tsv.
-- The table of rows has the types of each operator, by computing.
use Rattle.std.proofs.Common.{◌≡◌, ℕ, None, slice_index_or, refl, subst}
use Rattle.wasm_instr_ops.specs.declared.numeric.NumericOperator.{NumericOperator}
use Rattle.wasm_instr_ops.specs.declared.numeric.NumericOperator.TheVariants as numeric
use Rattle.wasm_instr_ops.specs.Numeric.{numeric_opcode}
use Rattle.wasm_instr.specs.declared.operator.Operator.{Operator}
use Rattle.wasm_instr.specs.declared.operator.Operator.TheVariants as operator
use Rattle.wasm_instr.specs.Row.{prefix_of, opcode_of}
use Rattle.wasm_signatures.specs.Numeric.{numeric_type}
use Rattle.wasm_signatures.specs.Own.{operator_typing}
use Rattle.wasm_signatures.specs.Rows.{type_of_row, HasRow}
use Rattle.wasm_signatures.specs.declared.rows.Row.{Row}
use Rattle.wasm_signatures.specs.declared.rows.TheConstants.{ROWS}

numeric_rows : (d : Row) (op : NumericOperator) → type_of_row (slice_index_or ROWS (numeric_opcode op) d) ≡ numeric_type op
numeric_rows d numeric.I32Eqz = refl
numeric_rows d op = refl

rows_of : (d : Row) (op : Operator) → prefix_of op ≡ None → HasRow (slice_index_or ROWS (opcode_of op) d) (operator_typing op)
rows_of d operator.Unreachable none = tt
rows_of d operator.Nop none = refl
rows_of d (operator.Block _) none = tt
rows_of d (operator.Loop _) none = tt
rows_of d (operator.If _) none = tt
rows_of d operator.Else none = tt
rows_of d operator.End none = tt
rows_of d (operator.Br _) none = tt
rows_of d (operator.BrIf _) none = tt
rows_of d (operator.BrTable _) none = tt
rows_of d operator.Return none = tt
rows_of d (operator.Call _) none = tt
rows_of d (operator.CallIndirect _ _) none = tt
rows_of d operator.Drop none = tt
rows_of d operator.Select none = tt
rows_of d (operator.LocalGet _) none = tt
rows_of d (operator.LocalSet _) none = tt
rows_of d (operator.LocalTee _) none = tt
rows_of d (operator.GlobalGet _) none = tt
rows_of d (operator.GlobalSet _) none = tt
rows_of d (operator.I32Load _) none = refl
rows_of d (operator.I64Load _) none = refl
rows_of d (operator.F32Load _) none = refl
rows_of d (operator.F64Load _) none = refl
rows_of d (operator.I32Load8S _) none = refl
rows_of d (operator.I32Load8U _) none = refl
rows_of d (operator.I32Load16S _) none = refl
rows_of d (operator.I32Load16U _) none = refl
rows_of d (operator.I64Load8S _) none = refl
rows_of d (operator.I64Load8U _) none = refl
rows_of d (operator.I64Load16S _) none = refl
rows_of d (operator.I64Load16U _) none = refl
rows_of d (operator.I64Load32S _) none = refl
rows_of d (operator.I64Load32U _) none = refl
rows_of d (operator.I32Store _) none = refl
rows_of d (operator.I64Store _) none = refl
rows_of d (operator.F32Store _) none = refl
rows_of d (operator.F64Store _) none = refl
rows_of d (operator.I32Store8 _) none = refl
rows_of d (operator.I32Store16 _) none = refl
rows_of d (operator.I64Store8 _) none = refl
rows_of d (operator.I64Store16 _) none = refl
rows_of d (operator.I64Store32 _) none = refl
rows_of d (operator.MemorySize _) none = refl
rows_of d (operator.MemoryGrow _) none = refl
rows_of d (operator.I32Const _) none = refl
rows_of d (operator.I64Const _) none = refl
rows_of d (operator.F32Const _) none = refl
rows_of d (operator.F64Const _) none = refl
rows_of d operator.RefEq none = refl
rows_of d (operator.TypedSelect _) none = tt
rows_of d (operator.TypedSelectMulti _) none = tt
rows_of d (operator.RefNull _) none = tt
rows_of d operator.RefIsNull none = tt
rows_of d (operator.RefFunc _) none = tt
rows_of d (operator.TableGet _) none = tt
rows_of d (operator.TableSet _) none = tt
rows_of d (operator.ReturnCall _) none = tt
rows_of d (operator.ReturnCallIndirect _ _) none = tt
rows_of d (operator.TryTable _) none = tt
rows_of d (operator.Throw _) none = tt
rows_of d operator.ThrowRef none = tt
rows_of d (operator.Try _) none = tt
rows_of d (operator.Catch _) none = tt
rows_of d (operator.Rethrow _) none = tt
rows_of d (operator.Delegate _) none = tt
rows_of d operator.CatchAll none = tt
rows_of d (operator.CallRef _) none = tt
rows_of d (operator.ReturnCallRef _) none = tt
rows_of d operator.RefAsNonNull none = tt
rows_of d (operator.BrOnNull _) none = tt
rows_of d (operator.BrOnNonNull _) none = tt
rows_of d (operator.ContNew _) none = tt
rows_of d (operator.ContBind _ _) none = tt
rows_of d (operator.Suspend _) none = tt
rows_of d (operator.Resume _ _) none = tt
rows_of d (operator.ResumeThrow _ _ _) none = tt
rows_of d (operator.ResumeThrowRef _ _) none = tt
rows_of d (operator.Switch _ _) none = tt
rows_of d (operator.Numeric op) none = numeric_rows d op
rows_of d (operator.Gc op) none = absurd (cc none)
rows_of d (operator.Misc op) none = absurd (cc none)
rows_of d (operator.Simd op) none = absurd (cc none)
rows_of d (operator.Atomic op) none = absurd (cc none)

pub rows_at : (code : ℕ) (d : Row) (op : Operator) → prefix_of op ≡ None → opcode_of op ≡ code → HasRow (slice_index_or ROWS code d) (operator_typing op)
rows_at code d op none is = subst (λ k. HasRow (slice_index_or ROWS k d) (operator_typing op)) is (rows_of d op none)
