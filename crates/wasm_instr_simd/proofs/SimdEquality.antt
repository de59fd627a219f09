-- Written by tools/lists.py from tools/operators.tsv.
use Rattle.wasm_below.specs.Equality.{IsExact}
use Rattle.std.proofs.lemmas.Bool.Decides.{Decides-eqb}
use Rattle.wasm_imm.proofs.ImmediateEquality.{lanes_exact, vector_exact, argument_exact}
use Rattle.wasm_below.proofs.EnumEquality.{enum_exact, ◌▸◌, none, one, two}
use Rattle.wasm_instr_simd.specs.contracts.simd.SimdOperator as simd_type
use Rattle.wasm_instr_simd.specs.contracts.simd.SimdOperatorPartialEq.TheImpl as simd_eq

pub simd_exact : IsExact simd_eq.ghosts.eq
simd_exact = enum_exact simd_type.enum _
    (one _ argument_exact ▸ one _ argument_exact ▸ one _ argument_exact ▸ one _ argument_exact ▸ one _ argument_exact ▸ one _ argument_exact ▸
    one _ argument_exact ▸ one _ argument_exact ▸ one _ argument_exact ▸ one _ argument_exact ▸ one _ argument_exact ▸ one _ argument_exact ▸
    one _ argument_exact ▸ one _ argument_exact ▸ two _ _ argument_exact Decides-eqb ▸ two _ _ argument_exact Decides-eqb ▸ two _ _ argument_exact Decides-eqb ▸
    two _ _ argument_exact Decides-eqb ▸ two _ _ argument_exact Decides-eqb ▸ two _ _ argument_exact Decides-eqb ▸ two _ _ argument_exact Decides-eqb ▸
    two _ _ argument_exact Decides-eqb ▸ one _ vector_exact ▸ one _ lanes_exact ▸ one _ Decides-eqb ▸ one _ Decides-eqb ▸ one _ Decides-eqb ▸ one _ Decides-eqb ▸
    one _ Decides-eqb ▸ one _ Decides-eqb ▸ one _ Decides-eqb ▸ one _ Decides-eqb ▸ one _ Decides-eqb ▸ one _ Decides-eqb ▸ one _ Decides-eqb ▸ one _ Decides-eqb ▸
    one _ Decides-eqb ▸ one _ Decides-eqb ▸ none ▸ none ▸ none ▸ none ▸ none ▸ none ▸ none ▸ none ▸ none ▸ none ▸ none ▸ none ▸ none ▸ none ▸ none ▸ none ▸ none ▸
    none ▸ none ▸ none ▸ none ▸ none ▸ none ▸ none ▸ none ▸ none ▸ none ▸ none ▸ none ▸ none ▸ none ▸ none ▸ none ▸ none ▸ none ▸ none ▸ none ▸ none ▸ none ▸
    none ▸ none ▸ none ▸ none ▸ none ▸ none ▸ none ▸ none ▸ none ▸ none ▸ none ▸ none ▸ none ▸ none ▸ none ▸ none ▸ none ▸ none ▸ none ▸ none ▸ none ▸ none ▸
    none ▸ none ▸ none ▸ none ▸ none ▸ none ▸ none ▸ none ▸ none ▸ none ▸ none ▸ none ▸ none ▸ none ▸ none ▸ none ▸ none ▸ none ▸ none ▸ none ▸ none ▸ none ▸
    none ▸ none ▸ none ▸ none ▸ none ▸ none ▸ none ▸ none ▸ none ▸ none ▸ none ▸ none ▸ none ▸ none ▸ none ▸ none ▸ none ▸ none ▸ none ▸ none ▸ none ▸ none ▸
    none ▸ none ▸ none ▸ none ▸ none ▸ none ▸ none ▸ none ▸ none ▸ none ▸ none ▸ none ▸ none ▸ none ▸ none ▸ none ▸ none ▸ none ▸ none ▸ none ▸ none ▸ none ▸
    none ▸ none ▸ none ▸ none ▸ none ▸ none ▸ none ▸ none ▸ none ▸ none ▸ none ▸ none ▸ none ▸ none ▸ none ▸ none ▸ none ▸ none ▸ none ▸ none ▸ none ▸ none ▸
    none ▸ none ▸ none ▸ none ▸ none ▸ none ▸ none ▸ none ▸ none ▸ none ▸ none ▸ none ▸ none ▸ none ▸ none ▸ none ▸ none ▸ none ▸ none ▸ none ▸ none ▸ none ▸
    none ▸ none ▸ none ▸ none ▸ none ▸ none ▸ none ▸ none ▸ none ▸ none ▸ none ▸ none ▸ none ▸ none ▸ none ▸ none ▸ none ▸ none ▸ none ▸ none ▸ none ▸ none ▸
    none ▸ none ▸ none ▸ none ▸ none ▸ none ▸ none ▸ none ▸ none ▸ none ▸ none ▸ none ▸ none ▸ none ▸ none ▸ none ▸ none ▸ none ▸ none ▸ none ▸ none ▸ none ▸
    none ▸ none ▸ none ▸ tt)
