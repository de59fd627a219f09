-- Written by tools/lists.py from tools/operators.tsv.
use Rattle.std.proofs.Common.{[], Some, refl, subst, arith, ◌≡◌, ◌≤◌}
use Rattle.wasm_instr.specs.declared.operator.Operator.TheVariants as operator
use Rattle.wasm_instr_simd.specs.declared.simd.SimdOperator.TheVariants as simd
use Rattle.wasm_decode_opcodes.specs.Decoding.{VisitsRow}
use Rattle.wasm_decode_groups.proofs.Codes.{simd_high_without_immediates_codes}
use Rattle.wasm_decode_groups.proofs.simd_high_operators.OwnAtSimdHighUnit.at.Goals as goal

pub returns-in_default : goal.returns-in_default
returns-in_default g c =
    let h = simd_high_without_immediates_codes c.args.code c.requires.kinds in
    let bound : 0x80 ≤ c.args.code = c.requires.group in
    let same : 0x113 ≡ c.args.code = first_of (omega (arith, h, bound), grind (arith, h, bound)) in
    subst (λ k. VisitsRow g.V.Visitor.visits (Some 0xfd) k ([]) c.args.v.now c.visit_i32x4_relaxed_dot_i8x16_i7x16_add_s.result c.visit_i32x4_relaxed_dot_i8x16_i7x16_add_s.new.self) same (operator.Simd (simd.I32x4RelaxedDotI8x16I7x16AddS), refl, refl, refl, c.visit_i32x4_relaxed_dot_i8x16_i7x16_add_s.ensures)
