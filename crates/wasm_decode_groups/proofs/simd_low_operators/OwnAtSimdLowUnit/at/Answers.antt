-- Written by tools/lists.py from tools/operators.tsv.
use Rattle.std.proofs.Common.{[], Some, refl, subst, arith, ◌≡◌, ◌<◌}
use Rattle.wasm_instr.specs.declared.operator.Operator.TheVariants as operator
use Rattle.wasm_instr_simd.specs.declared.simd.SimdOperator.TheVariants as simd
use Rattle.wasm_decode_opcodes.specs.Decoding.{VisitsRow}
use Rattle.wasm_decode_groups.proofs.Codes.{simd_low_without_immediates_codes}
use Rattle.wasm_decode_groups.proofs.simd_low_operators.OwnAtSimdLowUnit.at.Goals as goal

pub returns-in_default : goal.returns-in_default
returns-in_default g c =
    let h = simd_low_without_immediates_codes c.args.code c.requires.kinds in
    let bound : c.args.code < 0x80 = c.requires.group in
    let same : 0x7f ≡ c.args.code = first_of (omega (arith, h, bound), grind (arith, h, bound)) in
    subst (λ k. VisitsRow g.V.Visitor.visits (Some 0xfd) k ([]) c.args.v.now c.visit_i32x4_extadd_pairwise_i16x8_u.result c.visit_i32x4_extadd_pairwise_i16x8_u.new.self) same (operator.Simd (simd.I32x4ExtAddPairwiseI16x8U), refl, refl, refl, c.visit_i32x4_extadd_pairwise_i16x8_u.ensures)
