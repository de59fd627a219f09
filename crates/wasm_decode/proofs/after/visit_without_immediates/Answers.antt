use Rattle.std.proofs.Common.{◌<◌, ◌≤◌, refl, sym, subst, arith}
use Rattle.wasm_instr.specs.declared.operator.Operator.TheVariants as operator
use Rattle.wasm_decode.proofs.after.visit_without_immediates.Goals as goal

pub dispatch_simd_low-requires : goal.dispatch_simd_low-requires
dispatch_simd_low-requires g c = subst (λ z. z < 0x80) (sym c.simd_low_without_immediates.ensures.0) (omega (arith, c.in-0-to-127))

pub dispatch_simd_high-requires : goal.dispatch_simd_high-requires
dispatch_simd_high-requires g c = subst (λ z. 0x80 ≤ z) (sym c.simd_high_without_immediates.ensures.0) (omega arith)

pub returns-in-0-to-127 : goal.returns-in-0-to-127
returns-in-0-to-127 g c =
    let op = c.simd_low_without_immediates in
    (operator.Simd op.result, refl, op.ensures.0, op.ensures.1, c.dispatch_simd_low.ensures)

pub returns-in_default : goal.returns-in_default
returns-in_default g c =
    let op = c.simd_high_without_immediates in
    (operator.Simd op.result, refl, op.ensures.0, op.ensures.1, c.dispatch_simd_high.ensures)
