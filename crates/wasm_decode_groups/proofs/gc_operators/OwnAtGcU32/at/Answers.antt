-- Written by tools/lists.py from tools/operators.tsv.
use Rattle.std.proofs.Common.{[], Some, refl, subst, arith, ◌≡◌, ◌∷◌}
use Rattle.wasm_instr.specs.declared.operator.Operator.TheVariants as operator
use Rattle.wasm_instr_ops.specs.declared.gc.GcOperator.TheVariants as gc
use Rattle.wasm_imm.specs.Immediate.{unsigned_32}
use Rattle.wasm_decode_opcodes.specs.Decoding.{VisitsRow}
use Rattle.wasm_decode_groups.proofs.Codes.{gc_unsigned_codes}
use Rattle.wasm_decode_groups.proofs.gc_operators.OwnAtGcU32.at.Goals as goal

pub returns-in_default : goal.returns-in_default
returns-in_default g c =
    let h = gc_unsigned_codes c.args.code c.requires.kinds in
    let same : 0x22 ≡ c.args.code = first_of (omega (arith, h), grind (arith, h)) in
    subst (λ k. VisitsRow g.V.Visitor.visits (Some 0xfb) k (unsigned_32 c.args.it ∷ []) c.args.v.now c.visit_ref_get_desc.result c.visit_ref_get_desc.new.self) same (operator.Gc (gc.RefGetDesc (c.args.it)), refl, refl, refl, c.visit_ref_get_desc.ensures)
