-- Written by tools/lists.py from tools/operators.tsv.
use Rattle.std.proofs.Common.{[], Some, refl, subst, arith, ◌≡◌, ◌∷◌}
use Rattle.wasm_instr.specs.declared.operator.Operator.TheVariants as operator
use Rattle.wasm_instr_simd.specs.declared.simd.SimdOperator.TheVariants as simd
use Rattle.wasm_imm.specs.Immediate.{one_lane}
use Rattle.wasm_decode_opcodes.specs.Decoding.{VisitsRow}
use Rattle.wasm_decode_groups.proofs.Codes.{simd_low_lane_index_codes}
use Rattle.wasm_decode_groups.proofs.simd_low_operators.OwnAtSimdLowU8.at.Goals as goal

pub returns-in_default : goal.returns-in_default
returns-in_default g c =
    let h = simd_low_lane_index_codes c.args.code c.requires.kinds in
    let same : 0x22 ≡ c.args.code = first_of (omega (arith, h), grind (arith, h)) in
    subst (λ k. VisitsRow g.V.Visitor.visits (Some 0xfd) k (one_lane c.args.it ∷ []) c.args.v.now c.visit_f64x2_replace_lane.result c.visit_f64x2_replace_lane.new.self) same (operator.Simd (simd.F64x2ReplaceLane (c.args.it)), refl, refl, refl, c.visit_f64x2_replace_lane.ensures)
