-- Written by tools/lists.py from tools/operators.tsv.
use Rattle.std.proofs.Common.{[], Some, refl, subst, arith, ◌≡◌}
use Rattle.wasm_instr.specs.declared.operator.Operator.TheVariants as operator
use Rattle.wasm_instr_ops.specs.declared.gc.GcOperator.TheVariants as gc
use Rattle.wasm_decode_opcodes.specs.Decoding.{VisitsRow}
use Rattle.wasm_decode_groups.proofs.Codes.{gc_without_immediates_codes}
use Rattle.wasm_decode_groups.proofs.gc_operators.OwnAtGcUnit.at.Goals as goal

pub returns-in_default : goal.returns-in_default
returns-in_default g c =
    let h = gc_without_immediates_codes c.args.code c.requires.kinds in
    let same : 0x1e ≡ c.args.code = first_of (omega (arith, h), grind (arith, h)) in
    subst (λ k. VisitsRow g.V.Visitor.visits (Some 0xfb) k ([]) c.args.v.now c.visit_i31_get_u.result c.visit_i31_get_u.new.self) same (operator.Gc (gc.I31GetU), refl, refl, refl, c.visit_i31_get_u.ensures)
