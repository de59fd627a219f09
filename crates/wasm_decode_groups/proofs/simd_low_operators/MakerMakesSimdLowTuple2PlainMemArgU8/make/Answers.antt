-- Written by tools/lists.py from tools/operators.tsv.
use Rattle.std.proofs.Common.{[], Some, refl, subst, arith, ◌≡◌, ◌∷◌}
use Rattle.wasm_imm.specs.declared.memory_argument.MemArgKind.TheVariants as kind
use Rattle.wasm_instr.specs.declared.operator.Operator.TheVariants as operator
use Rattle.wasm_instr_simd.specs.declared.simd.SimdOperator.TheVariants as simd
use Rattle.wasm_imm.specs.Immediate.{one_lane, memory_argument}
use Rattle.wasm_decode_opcodes.specs.Entries.{align_at}
use Rattle.wasm_decode_groups.specs.Arms.{IsRow}
use Rattle.wasm_decode_groups.proofs.Codes.{simd_low_memory_lane_index_codes}
use Rattle.wasm_decode_groups.proofs.simd_low_operators.MakerMakesSimdLowTuple2PlainMemArgU8.make.Goals as goal

pub returns-in_default : goal.returns-in_default
returns-in_default c =
    let h = simd_low_memory_lane_index_codes c.args.code c.requires.kinds in
    let same : 0x5b ≡ c.args.code = first_of (omega (arith, h), grind (arith, h)) in
    subst (λ k. IsRow (Some 0xfd) k (memory_argument kind.Plain (align_at (Some 0xfd) k) c.args.it.0.0 ∷ one_lane c.args.it.1 ∷ []) (operator.Simd (simd.V128Store64Lane (c.args.it.0.0) (c.args.it.1)))) same (refl, refl, refl)
