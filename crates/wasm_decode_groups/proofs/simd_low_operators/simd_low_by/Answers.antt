-- Written by tools/lists.py from tools/operators.tsv.
use Rattle.std.proofs.Common.{[], Some, sym, subst, ap, arith, ◌∷◌}
use Rattle.wasm_imm.specs.declared.memory_argument.MemArgKind.TheVariants as kind
use Rattle.wasm_imm.specs.Immediate.{is_one_lane, is_memory_argument}
use Rattle.wasm_decode_opcodes.specs.Entry.{entry_kinds}
use Rattle.wasm_decode_groups.specs.Arms.{HasArm}
use Rattle.wasm_decode_groups.proofs.Codes.{simd_low_memory_00, simd_low_memory_5c, simd_low_memory_lane_index_54, simd_low_lane_index_15, simd_low_without_immediates_arm}
use Rattle.wasm_decode_groups.proofs.WithoutImmediates.{outside}
use Rattle.wasm_decode_groups.proofs.simd_low_operators.simd_low_by.Goals as goal

pub align_of_memory-requires : goal.align_of_memory-requires
align_of_memory-requires g c = ap entry_kinds (simd_low_memory_00 c.args.code (omega (arith, c.in-0-to-11)) (omega (arith, c.in-0-to-11))).0

pub arm-requires-in-0-to-11-clause-kinds : goal.arm-requires-in-0-to-11-clause-kinds
arm-requires-in-0-to-11-clause-kinds g c = subst (λ z. HasArm (Some 0xfd) c.args.code (is_memory_argument kind.Plain z ∷ []) z) (sym c.align_of_memory.ensures) (simd_low_memory_00 c.args.code (omega (arith, c.in-0-to-11)) (omega (arith, c.in-0-to-11)))

pub align_of_memory-requires-in-92-to-93 : goal.align_of_memory-requires-in-92-to-93
align_of_memory-requires-in-92-to-93 g c = ap entry_kinds (simd_low_memory_5c c.args.code (omega (arith, c.in-92-to-93)) (omega (arith, c.in-92-to-93))).0

pub arm-requires-in-92-to-93-clause-kinds : goal.arm-requires-in-92-to-93-clause-kinds
arm-requires-in-92-to-93-clause-kinds g c = subst (λ z. HasArm (Some 0xfd) c.args.code (is_memory_argument kind.Plain z ∷ []) z) (sym c.align_of_memory-in-92-to-93.ensures) (simd_low_memory_5c c.args.code (omega (arith, c.in-92-to-93)) (omega (arith, c.in-92-to-93)))

pub align_of_memory_lane_index-requires : goal.align_of_memory_lane_index-requires
align_of_memory_lane_index-requires g c = ap entry_kinds (simd_low_memory_lane_index_54 c.args.code (omega (arith, c.in-84-to-91)) (omega (arith, c.in-84-to-91))).0

pub arm-requires-in-84-to-91-clause-kinds : goal.arm-requires-in-84-to-91-clause-kinds
arm-requires-in-84-to-91-clause-kinds g c = subst (λ z. HasArm (Some 0xfd) c.args.code (is_memory_argument kind.Plain z ∷ is_one_lane ∷ []) z) (sym c.align_of_memory_lane_index.ensures) (simd_low_memory_lane_index_54 c.args.code (omega (arith, c.in-84-to-91)) (omega (arith, c.in-84-to-91)))

pub arm-requires-in-21-to-34-clause-kinds : goal.arm-requires-in-21-to-34-clause-kinds
arm-requires-in-21-to-34-clause-kinds g c = simd_low_lane_index_15 c.args.code (omega (arith, c.in-21-to-34)) (omega (arith, c.in-21-to-34))

pub arm-requires-in_default-clause-kinds : goal.arm-requires-in_default-clause-kinds
arm-requires-in_default-clause-kinds g c = simd_low_without_immediates_arm c.args.code (outside c.args.code (omega (arith, c.requires.half)) (λ h. grind (arith, h)))
