-- Written by tools/lists.py from tools/operators.tsv.
use Rattle.std.proofs.Common.{[], Some, refl, subst, arith, ◌≡◌, ◌∷◌}
use Rattle.wasm_instr.specs.declared.operator.Operator.TheVariants as operator
use Rattle.wasm_instr_simd.specs.declared.simd.SimdOperator.TheVariants as simd
use Rattle.wasm_imm.specs.Immediate.{sixteen_lanes}
use Rattle.wasm_decode_groups.specs.Arms.{IsRow}
use Rattle.wasm_decode_groups.proofs.Codes.{simd_low_lane_list_codes}
use Rattle.wasm_decode_groups.proofs.simd_low_operators.MakerMakesSimdLowArrayU816.make.Goals as goal

pub returns : goal.returns
returns c =
    let h = simd_low_lane_list_codes c.args._code c.requires.kinds in
    let same : 0x0d ≡ c.args._code = first_of (omega (arith, h), grind (arith, h)) in
    subst (λ k. IsRow (Some 0xfd) k (sixteen_lanes c.args.it ∷ []) (operator.Simd (simd.I8x16Shuffle (c.args.it)))) same (refl, refl, refl)
