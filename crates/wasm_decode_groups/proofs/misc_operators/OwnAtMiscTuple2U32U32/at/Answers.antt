-- Written by tools/lists.py from tools/operators.tsv.
use Rattle.std.proofs.Common.{[], Some, refl, subst, arith, ◌≡◌, ◌∷◌}
use Rattle.wasm_instr.specs.declared.operator.Operator.TheVariants as operator
use Rattle.wasm_instr_ops.specs.declared.misc.MiscOperator.TheVariants as misc
use Rattle.wasm_imm.specs.Immediate.{unsigned_32}
use Rattle.wasm_decode_opcodes.specs.Decoding.{VisitsRow}
use Rattle.wasm_decode_groups.proofs.Codes.{misc_unsigned_unsigned_codes}
use Rattle.wasm_decode_groups.proofs.misc_operators.OwnAtMiscTuple2U32U32.at.Goals as goal

pub returns-in_default : goal.returns-in_default
returns-in_default g c =
    let h = misc_unsigned_unsigned_codes c.args.code c.requires.kinds in
    let same : 0x0e ≡ c.args.code = first_of (omega (arith, h), grind (arith, h)) in
    subst (λ k. VisitsRow g.V.Visitor.visits (Some 0xfc) k (unsigned_32 c.args.it.0 ∷ unsigned_32 c.args.it.1 ∷ []) c.args.v.now c.visit_table_copy.result c.visit_table_copy.new.self) same (operator.Misc (misc.TableCopy (c.args.it.0) (c.args.it.1)), refl, refl, refl, c.visit_table_copy.ensures)
