-- Written by tools/lists.py from tools/operators.tsv.
use denote.Signature.{static_lft}
use Rattle.wasm_below.specs.Equality.{IsExact}
use Rattle.std.proofs.lemmas.Bool.Decides.{Decides-eqb, Decides-int_eq}
use Rattle.wasm_below.proofs.TypeEquality.{heap_exact, value_exact}
use Rattle.wasm_imm.proofs.ControlEquality.{block_exact, table_exact, types_exact, try_exact, resume_exact}
use Rattle.wasm_imm.proofs.ImmediateEquality.{argument_exact}
use Rattle.wasm_below.proofs.EnumEquality.{enum_exact, ◌▸◌, none, one, two, three}
use Rattle.wasm_instr_ops.proofs.NumericEquality.{numeric_exact}
use Rattle.wasm_instr_ops.proofs.GcEquality.{gc_exact}
use Rattle.wasm_instr_ops.proofs.MiscEquality.{misc_exact}
use Rattle.wasm_instr_simd.proofs.SimdEquality.{simd_exact}
use Rattle.wasm_instr_ops.proofs.AtomicEquality.{atomic_exact}
use Rattle.wasm_instr.specs.contracts.operator.Operator as operator_type
use Rattle.wasm_instr.specs.contracts.operator.OperatorPartialEq.TheImpl as operator_eq

pub operator_exact : IsExact operator_eq.ghosts.eq
operator_exact = enum_exact (operator_type.enum static_lft) _
    (none ▸ none ▸ one _ block_exact ▸ one _ block_exact ▸ one _ block_exact ▸ none ▸ none ▸ one _ Decides-eqb ▸ one _ Decides-eqb ▸ one _ table_exact ▸ none ▸
    one _ Decides-eqb ▸ two _ _ Decides-eqb Decides-eqb ▸ none ▸ none ▸ one _ Decides-eqb ▸ one _ Decides-eqb ▸ one _ Decides-eqb ▸ one _ Decides-eqb ▸
    one _ Decides-eqb ▸ one _ argument_exact ▸ one _ argument_exact ▸ one _ argument_exact ▸ one _ argument_exact ▸ one _ argument_exact ▸ one _ argument_exact ▸
    one _ argument_exact ▸ one _ argument_exact ▸ one _ argument_exact ▸ one _ argument_exact ▸ one _ argument_exact ▸ one _ argument_exact ▸
    one _ argument_exact ▸ one _ argument_exact ▸ one _ argument_exact ▸ one _ argument_exact ▸ one _ argument_exact ▸ one _ argument_exact ▸
    one _ argument_exact ▸ one _ argument_exact ▸ one _ argument_exact ▸ one _ argument_exact ▸ one _ argument_exact ▸ one _ Decides-eqb ▸ one _ Decides-eqb ▸
    one _ Decides-int_eq ▸ one _ Decides-int_eq ▸ one _ Decides-eqb ▸ one _ Decides-eqb ▸ none ▸ one _ value_exact ▸ one _ types_exact ▸ one _ heap_exact ▸ none ▸
    one _ Decides-eqb ▸ one _ Decides-eqb ▸ one _ Decides-eqb ▸ one _ Decides-eqb ▸ two _ _ Decides-eqb Decides-eqb ▸ one _ try_exact ▸ one _ Decides-eqb ▸ none ▸
    one _ block_exact ▸ one _ Decides-eqb ▸ one _ Decides-eqb ▸ one _ Decides-eqb ▸ none ▸ one _ Decides-eqb ▸ one _ Decides-eqb ▸ none ▸ one _ Decides-eqb ▸
    one _ Decides-eqb ▸ one _ Decides-eqb ▸ two _ _ Decides-eqb Decides-eqb ▸ one _ Decides-eqb ▸ two _ _ Decides-eqb resume_exact ▸
    three _ _ _ Decides-eqb Decides-eqb resume_exact ▸ two _ _ Decides-eqb resume_exact ▸ two _ _ Decides-eqb Decides-eqb ▸ one _ numeric_exact ▸ one _ gc_exact ▸
    one _ misc_exact ▸ one _ simd_exact ▸ one _ atomic_exact ▸ tt)
