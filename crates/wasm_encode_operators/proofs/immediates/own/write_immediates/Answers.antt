-- Written by tools/lists.py from tools/operators.tsv.
use Rattle.std.proofs.Common.{◌≡◌, [], ◌∷◌, ap, inl, inr, sym, ◌∙◌, to_z, of_z, rules}
use mir.Val.{SFits}
use Rattle.std.specs.Int.{w32, w64}
use Rattle.std.proofs.lemmas.Int.{to_z-of_z}
use Rattle.wasm_imm.specs.declared.memory_argument.MemArgKind.TheVariants as kind
use Rattle.wasm_imm.specs.Immediate.{unsigned_32, signed_32, signed_64, memory_argument, resume_clauses}
use Rattle.wasm_instr.specs.Row.{immediates_of}
use Rattle.wasm_encode_operators.proofs.Arms.{listed_as}
use Rattle.wasm_encode_operators.proofs.immediates.own.write_immediates.Goals as goal

pub returns-in-Br : goal.returns-in-Br
returns-in-Br c =
    let e : immediates_of c.args.op.now ≡ unsigned_32 c.in-Br.a ∷ [] = elim c.in-Br.is [ inl h ↦ ap immediates_of h | inr m ↦ elim m [ inl h ↦ ap immediates_of h | inr m ↦ elim m [ inl h ↦ ap immediates_of h | inr m ↦ elim m [ inl h ↦ ap immediates_of h | inr m ↦ elim m [ inl h ↦ ap immediates_of h | inr m ↦ elim m [ inl h ↦ ap immediates_of h | inr m ↦ elim m [ inl h ↦ ap immediates_of h | inr m ↦ elim m [ inl h ↦ ap immediates_of h | inr m ↦ elim m [ inl h ↦ ap immediates_of h | inr m ↦ elim m [ inl h ↦ ap immediates_of h | inr m ↦ elim m [ inl h ↦ ap immediates_of h | inr m ↦ elim m [ inl h ↦ ap immediates_of h | inr m ↦ elim m [ inl h ↦ ap immediates_of h | inr m ↦ elim m [ inl h ↦ ap immediates_of h | inr m ↦ elim m [ inl h ↦ ap immediates_of h | inr m ↦ elim m [ inl h ↦ ap immediates_of h | inr m ↦ elim m [ inl h ↦ ap immediates_of h | inr m ↦ elim m [ inl h ↦ ap immediates_of h | inr m ↦ elim m [ inl h ↦ ap immediates_of h | inr m ↦ elim m [ inl h ↦ ap immediates_of h | inr m ↦ elim m [ inl h ↦ ap immediates_of h | inr m ↦ ap immediates_of m ] ] ] ] ] ] ] ] ] ] ] ] ] ] ] ] ] ] ] ] ] in
    listed_as c.args.features (immediates_of c.args.op.now) (unsigned_32 c.in-Br.a ∷ []) c.write-in-Br.result c.args.out.now c.write-in-Br.new.out e c.write-in-Br.ensures.written

pub returns-in-I32Load : goal.returns-in-I32Load
returns-in-I32Load c =
    let e : immediates_of c.args.op.now ≡ memory_argument kind.Plain 2 c.in-I32Load.a ∷ [] = elim c.in-I32Load.is [ inl h ↦ ap immediates_of h | inr m ↦ elim m [ inl h ↦ ap immediates_of h | inr m ↦ elim m [ inl h ↦ ap immediates_of h | inr m ↦ elim m [ inl h ↦ ap immediates_of h | inr m ↦ elim m [ inl h ↦ ap immediates_of h | inr m ↦ elim m [ inl h ↦ ap immediates_of h | inr m ↦ ap immediates_of m ] ] ] ] ] ] in
    listed_as c.args.features (immediates_of c.args.op.now) (memory_argument kind.Plain 2 c.in-I32Load.a ∷ []) c.write-in-I32Load.result c.args.out.now c.write-in-I32Load.new.out e c.write-in-I32Load.ensures.written

pub returns-in-I64Load : goal.returns-in-I64Load
returns-in-I64Load c =
    let e : immediates_of c.args.op.now ≡ memory_argument kind.Plain 3 c.in-I64Load.a ∷ [] = elim c.in-I64Load.is [ inl h ↦ ap immediates_of h | inr m ↦ elim m [ inl h ↦ ap immediates_of h | inr m ↦ elim m [ inl h ↦ ap immediates_of h | inr m ↦ ap immediates_of m ] ] ] in
    listed_as c.args.features (immediates_of c.args.op.now) (memory_argument kind.Plain 3 c.in-I64Load.a ∷ []) c.write-in-I64Load.result c.args.out.now c.write-in-I64Load.new.out e c.write-in-I64Load.ensures.written

pub returns-in-I32Load8S : goal.returns-in-I32Load8S
returns-in-I32Load8S c =
    let e : immediates_of c.args.op.now ≡ memory_argument kind.Plain 0 c.in-I32Load8S.a ∷ [] = elim c.in-I32Load8S.is [ inl h ↦ ap immediates_of h | inr m ↦ elim m [ inl h ↦ ap immediates_of h | inr m ↦ elim m [ inl h ↦ ap immediates_of h | inr m ↦ elim m [ inl h ↦ ap immediates_of h | inr m ↦ elim m [ inl h ↦ ap immediates_of h | inr m ↦ ap immediates_of m ] ] ] ] ] in
    listed_as c.args.features (immediates_of c.args.op.now) (memory_argument kind.Plain 0 c.in-I32Load8S.a ∷ []) c.write-in-I32Load8S.result c.args.out.now c.write-in-I32Load8S.new.out e c.write-in-I32Load8S.ensures.written

pub returns-in-I32Load16S : goal.returns-in-I32Load16S
returns-in-I32Load16S c =
    let e : immediates_of c.args.op.now ≡ memory_argument kind.Plain 1 c.in-I32Load16S.a ∷ [] = elim c.in-I32Load16S.is [ inl h ↦ ap immediates_of h | inr m ↦ elim m [ inl h ↦ ap immediates_of h | inr m ↦ elim m [ inl h ↦ ap immediates_of h | inr m ↦ elim m [ inl h ↦ ap immediates_of h | inr m ↦ elim m [ inl h ↦ ap immediates_of h | inr m ↦ ap immediates_of m ] ] ] ] ] in
    listed_as c.args.features (immediates_of c.args.op.now) (memory_argument kind.Plain 1 c.in-I32Load16S.a ∷ []) c.write-in-I32Load16S.result c.args.out.now c.write-in-I32Load16S.new.out e c.write-in-I32Load16S.ensures.written

pub returns-in-I32Const : goal.returns-in-I32Const
returns-in-I32Const c =
    let fits : SFits w32 c.in-I32Const.a = search rules in
    let e : immediates_of c.args.op.now ≡ signed_32 (to_z w32 (of_z w32 c.in-I32Const.a)) ∷ [] = ap immediates_of c.in-I32Const.is ∙ ap (λ v. signed_32 v ∷ []) (sym (to_z-of_z w32 c.in-I32Const.a fits)) in
    listed_as c.args.features (immediates_of c.args.op.now) (signed_32 (to_z w32 (of_z w32 c.in-I32Const.a)) ∷ []) c.write-in-I32Const.result c.args.out.now c.write-in-I32Const.new.out e c.write-in-I32Const.ensures.written

pub returns-in-I64Const : goal.returns-in-I64Const
returns-in-I64Const c =
    let fits : SFits w64 c.in-I64Const.a = search rules in
    let e : immediates_of c.args.op.now ≡ signed_64 (to_z w64 (of_z w64 c.in-I64Const.a)) ∷ [] = ap immediates_of c.in-I64Const.is ∙ ap (λ v. signed_64 v ∷ []) (sym (to_z-of_z w64 c.in-I64Const.a fits)) in
    listed_as c.args.features (immediates_of c.args.op.now) (signed_64 (to_z w64 (of_z w64 c.in-I64Const.a)) ∷ []) c.write-in-I64Const.result c.args.out.now c.write-in-I64Const.new.out e c.write-in-I64Const.ensures.written

pub returns-in-ResumeThrow : goal.returns-in-ResumeThrow
returns-in-ResumeThrow c =
    let e : immediates_of c.args.op.now ≡ unsigned_32 c.in-ResumeThrow.a ∷ unsigned_32 c.in-ResumeThrow.b ∷ resume_clauses c.in-ResumeThrow.c ∷ [] = ap immediates_of c.in-ResumeThrow.is in
    listed_as c.args.features (immediates_of c.args.op.now) (unsigned_32 c.in-ResumeThrow.a ∷ unsigned_32 c.in-ResumeThrow.b ∷ resume_clauses c.in-ResumeThrow.c ∷ []) c.write_resume_throw.result c.args.out.now c.write_resume_throw.new.out e c.write_resume_throw.ensures
