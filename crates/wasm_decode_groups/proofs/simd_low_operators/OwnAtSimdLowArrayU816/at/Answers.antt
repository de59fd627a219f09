-- Written by tools/lists.py from tools/operators.tsv.
use Rattle.std.proofs.Common.{[], Some, refl, subst, arith, ◌≡◌, ◌∷◌}
use Rattle.wasm_instr.specs.declared.operator.Operator.TheVariants as operator
use Rattle.wasm_instr_simd.specs.declared.simd.SimdOperator.TheVariants as simd
use Rattle.wasm_imm.specs.Immediate.{sixteen_lanes}
use Rattle.wasm_decode_opcodes.specs.Decoding.{VisitsRow}
use Rattle.wasm_decode_groups.proofs.Codes.{simd_low_lane_list_codes}
use Rattle.wasm_decode_groups.proofs.simd_low_operators.OwnAtSimdLowArrayU816.at.Goals as goal

pub returns : goal.returns
returns g c =
    let h = simd_low_lane_list_codes c.args._code c.requires.kinds in
    let same : 0x0d ≡ c.args._code = first_of (omega (arith, h), grind (arith, h)) in
    subst (λ k. VisitsRow g.V.Visitor.visits (Some 0xfd) k (sixteen_lanes c.args.it ∷ []) c.args.v.now c.visit_i8x16_shuffle.result c.visit_i8x16_shuffle.new.self) same (operator.Simd (simd.I8x16Shuffle (c.args.it)), refl, refl, refl, c.visit_i8x16_shuffle.ensures)
