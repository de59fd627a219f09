-- Written by tools/lists.py from tools/operators.tsv.
use Rattle.std.proofs.Common.{[], Some, refl, subst, arith, ◌≡◌, ◌<◌}
use Rattle.wasm_instr.specs.declared.operator.Operator.TheVariants as operator
use Rattle.wasm_instr_simd.specs.declared.simd.SimdOperator.TheVariants as simd
use Rattle.wasm_decode_groups.specs.Arms.{IsRow}
use Rattle.wasm_decode_groups.proofs.Codes.{simd_low_without_immediates_codes}
use Rattle.wasm_decode_groups.proofs.simd_low_operators.MakerMakesSimdLowUnit.make.Goals as goal

pub returns-in_default : goal.returns-in_default
returns-in_default c =
    let h = simd_low_without_immediates_codes c.args.code c.requires.kinds in
    let bound : c.args.code < 0x80 = c.requires.group in
    let same : 0x7f ≡ c.args.code = first_of (omega (arith, h, bound), grind (arith, h, bound)) in
    subst (λ k. IsRow (Some 0xfd) k ([]) (operator.Simd (simd.I32x4ExtAddPairwiseI16x8U))) same (refl, refl, refl)
