-- Written by tools/lists.py from tools/operators.tsv.
use Rattle.std.proofs.Common.{[], Some, refl, subst, arith, ◌≡◌, ◌∷◌}
use Rattle.wasm_imm.specs.declared.memory_argument.MemArgKind.TheVariants as kind
use Rattle.wasm_instr.specs.declared.operator.Operator.TheVariants as operator
use Rattle.wasm_instr_simd.specs.declared.simd.SimdOperator.TheVariants as simd
use Rattle.wasm_imm.specs.Immediate.{memory_argument}
use Rattle.wasm_decode_opcodes.specs.Decoding.{VisitsRow}
use Rattle.wasm_decode_opcodes.specs.Entries.{align_at}
use Rattle.wasm_decode_groups.proofs.Codes.{simd_low_memory_codes}
use Rattle.wasm_decode_groups.proofs.simd_low_operators.OwnAtSimdLowPlainMemArg.at.Goals as goal

pub returns-in_default : goal.returns-in_default
returns-in_default g c =
    let h = simd_low_memory_codes c.args.code c.requires.kinds in
    let same : 0x5d ≡ c.args.code = first_of (omega (arith, h), grind (arith, h)) in
    subst (λ k. VisitsRow g.V.Visitor.visits (Some 0xfd) k (memory_argument kind.Plain (align_at (Some 0xfd) k) c.args.it.0 ∷ []) c.args.v.now c.visit_v128_load64_zero.result c.visit_v128_load64_zero.new.self) same (operator.Simd (simd.V128Load64Zero (c.args.it.0)), refl, refl, refl, c.visit_v128_load64_zero.ensures)
