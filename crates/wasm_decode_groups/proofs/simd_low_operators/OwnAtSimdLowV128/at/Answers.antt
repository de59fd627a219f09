-- Written by tools/lists.py from tools/operators.tsv.
use Rattle.std.proofs.Common.{[], Some, refl, subst, arith, ◌≡◌, ◌∷◌}
use Rattle.wasm_instr.specs.declared.operator.Operator.TheVariants as operator
use Rattle.wasm_instr_simd.specs.declared.simd.SimdOperator.TheVariants as simd
use Rattle.wasm_imm.specs.Immediate.{vector}
use Rattle.wasm_decode_opcodes.specs.Decoding.{VisitsRow}
use Rattle.wasm_decode_groups.proofs.Codes.{simd_low_vector_codes}
use Rattle.wasm_decode_groups.proofs.simd_low_operators.OwnAtSimdLowV128.at.Goals as goal

pub returns : goal.returns
returns g c =
    let h = simd_low_vector_codes c.args._code c.requires.kinds in
    let same : 0x0c ≡ c.args._code = first_of (omega (arith, h), grind (arith, h)) in
    subst (λ k. VisitsRow g.V.Visitor.visits (Some 0xfd) k (vector c.args.it ∷ []) c.args.v.now c.visit_v128_const.result c.visit_v128_const.new.self) same (operator.Simd (simd.V128Const (c.args.it)), refl, refl, refl, c.visit_v128_const.ensures)
