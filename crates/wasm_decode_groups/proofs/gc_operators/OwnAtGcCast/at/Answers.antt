-- Written by tools/lists.py from tools/operators.tsv.
use Rattle.std.proofs.Common.{[], Some, refl, subst, arith, ◌≡◌, ◌∷◌}
use Rattle.wasm_instr.specs.declared.operator.Operator.TheVariants as operator
use Rattle.wasm_instr_ops.specs.declared.gc.GcOperator.TheVariants as gc
use Rattle.wasm_imm.specs.Immediate.{cast}
use Rattle.wasm_decode_opcodes.specs.Decoding.{VisitsRow}
use Rattle.wasm_decode_groups.proofs.Codes.{gc_cast_codes}
use Rattle.wasm_decode_groups.proofs.gc_operators.OwnAtGcCast.at.Goals as goal

pub returns-in_default : goal.returns-in_default
returns-in_default g c =
    let h = gc_cast_codes c.args.code c.requires.kinds in
    let same : 0x26 ≡ c.args.code = first_of (omega (arith, h), grind (arith, h)) in
    subst (λ k. VisitsRow g.V.Visitor.visits (Some 0xfb) k (cast c.args.it ∷ []) c.args.v.now c.visit_br_on_cast_desc_eq_fail.result c.visit_br_on_cast_desc_eq_fail.new.self) same (operator.Gc (gc.BrOnCastDescEqFail (c.args.it.relative_depth) (c.args.it.from) (c.args.it.to)), refl, refl, refl, c.visit_br_on_cast_desc_eq_fail.ensures)
