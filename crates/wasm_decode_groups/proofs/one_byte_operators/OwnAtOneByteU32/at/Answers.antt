-- Written by tools/lists.py from tools/operators.tsv.
use Rattle.std.proofs.Common.{[], None, refl, subst, arith, ◌≡◌, ◌∷◌}
use Rattle.wasm_instr.specs.declared.operator.Operator.TheVariants as operator
use Rattle.wasm_imm.specs.Immediate.{unsigned_32}
use Rattle.wasm_decode_opcodes.specs.Decoding.{VisitsRow}
use Rattle.wasm_decode_groups.proofs.Codes.{one_byte_unsigned_codes}
use Rattle.wasm_decode_groups.proofs.one_byte_operators.OwnAtOneByteU32.at.Goals as goal

pub returns-in_default : goal.returns-in_default
returns-in_default g c =
    let h = one_byte_unsigned_codes c.args.code c.requires.kinds in
    let same : 0xe2 ≡ c.args.code = first_of (omega (arith, h), grind (arith, h)) in
    subst (λ k. VisitsRow g.V.Visitor.visits None k (unsigned_32 c.args.it ∷ []) c.args.v.now c.visit_suspend.result c.visit_suspend.new.self) same (operator.Suspend (c.args.it), refl, refl, refl, c.visit_suspend.ensures)
