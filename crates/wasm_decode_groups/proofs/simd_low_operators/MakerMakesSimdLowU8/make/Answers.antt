-- Written by tools/lists.py from tools/operators.tsv.
use Rattle.std.proofs.Common.{[], Some, refl, subst, arith, ◌≡◌, ◌∷◌}
use Rattle.wasm_instr.specs.declared.operator.Operator.TheVariants as operator
use Rattle.wasm_instr_simd.specs.declared.simd.SimdOperator.TheVariants as simd
use Rattle.wasm_imm.specs.Immediate.{one_lane}
use Rattle.wasm_decode_groups.specs.Arms.{IsRow}
use Rattle.wasm_decode_groups.proofs.Codes.{simd_low_lane_index_codes}
use Rattle.wasm_decode_groups.proofs.simd_low_operators.MakerMakesSimdLowU8.make.Goals as goal

pub returns-in_default : goal.returns-in_default
returns-in_default c =
    let h = simd_low_lane_index_codes c.args.code c.requires.kinds in
    let same : 0x22 ≡ c.args.code = first_of (omega (arith, h), grind (arith, h)) in
    subst (λ k. IsRow (Some 0xfd) k (one_lane c.args.it ∷ []) (operator.Simd (simd.F64x2ReplaceLane (c.args.it)))) same (refl, refl, refl)
