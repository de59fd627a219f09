use Rattle.std.proofs.Common.{[], ◌≡◌, ◌∷◌, None, refl, subst, arith}
use Rattle.wasm_instr.specs.declared.operator.Operator.TheVariants as operator
use Rattle.wasm_imm.specs.Immediate.{unsigned_32, resume_clauses}
use Rattle.wasm_decode_opcodes.specs.Decoding.{VisitsRow}
use Rattle.wasm_decode_groups.proofs.Codes.{resume_codes}
use Rattle.wasm_decode_groups.proofs.one_byte_arms.OwnAtListTuple2U32ResumeTable.at_list.Goals as goal

pub returns-in_default : goal.returns-in_default
returns-in_default g c =
    let h = resume_codes c.args.code c.requires in
    let same : 0xe5 ≡ c.args.code = first_of (omega (arith, h), grind (arith, h)) in
    subst (λ k. VisitsRow g.V.Visitor.visits None k (unsigned_32 c.args.it.0 ∷ resume_clauses c.args.it.1 ∷ []) c.args.v.now c.visit_resume_throw_ref.result c.visit_resume_throw_ref.new.self) same (operator.ResumeThrowRef c.args.it.0 c.args.it.1, refl, refl, refl, c.visit_resume_throw_ref.ensures)
