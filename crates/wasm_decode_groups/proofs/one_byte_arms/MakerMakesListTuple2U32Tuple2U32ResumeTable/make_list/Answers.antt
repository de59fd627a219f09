use Rattle.std.proofs.Common.{[], ◌≡◌, ◌∷◌, None, refl, subst, arith}
use Rattle.wasm_instr.specs.declared.operator.Operator.TheVariants as operator
use Rattle.wasm_imm.specs.Immediate.{unsigned_32, resume_clauses}
use Rattle.wasm_decode_groups.specs.Arms.{IsRow}
use Rattle.wasm_decode_groups.proofs.Codes.{resume_throw_codes}
use Rattle.wasm_decode_groups.proofs.one_byte_arms.MakerMakesListTuple2U32Tuple2U32ResumeTable.make_list.Goals as goal

pub returns : goal.returns
returns c =
    let h = resume_throw_codes c.args._code c.requires in
    let same : 0xe4 ≡ c.args._code = first_of (omega (arith, h), grind (arith, h)) in
    subst (λ k. IsRow None k (unsigned_32 c.args.it.0 ∷ unsigned_32 c.args.it.1.0 ∷ resume_clauses c.args.it.1.1 ∷ []) (operator.ResumeThrow c.args.it.0 c.args.it.1.0 c.args.it.1.1)) same (refl, refl, refl)
