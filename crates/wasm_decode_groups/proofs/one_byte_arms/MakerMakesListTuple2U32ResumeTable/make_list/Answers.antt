use Rattle.std.proofs.Common.{[], ◌≡◌, ◌∷◌, None, refl, subst, arith}
use Rattle.wasm_instr.specs.declared.operator.Operator.TheVariants as operator
use Rattle.wasm_imm.specs.Immediate.{unsigned_32, resume_clauses}
use Rattle.wasm_decode_groups.specs.Arms.{IsRow}
use Rattle.wasm_decode_groups.proofs.Codes.{resume_codes}
use Rattle.wasm_decode_groups.proofs.one_byte_arms.MakerMakesListTuple2U32ResumeTable.make_list.Goals as goal

pub returns-in_default : goal.returns-in_default
returns-in_default c =
    let h = resume_codes c.args.code c.requires in
    let same : 0xe5 ≡ c.args.code = first_of (omega (arith, h), grind (arith, h)) in
    subst (λ k. IsRow None k (unsigned_32 c.args.it.0 ∷ resume_clauses c.args.it.1 ∷ []) (operator.ResumeThrowRef c.args.it.0 c.args.it.1)) same (refl, refl, refl)
