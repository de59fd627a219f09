use Rattle.std.proofs.Common.{[], ◌∷◌}
use Rattle.wasm_below.specs.Source.{rest, SomePrefix}
use Rattle.wasm_imm.specs.HandlerTables.{EncodesResumeTable, EncodesHandlerCount}
use Rattle.wasm_imm.specs.Immediate.{resume_clauses, is_resume_clauses}
use Rattle.wasm_decode_opcodes.specs.Refused.{KindsMayAllocate}
use Rattle.wasm_decode_opcodes.proofs.KindLemmas.{memory_refused, of_resume_table}
use Rattle.wasm_decode_opcodes.proofs.ListLemmas.{resumes_own}
use Rattle.wasm_decode_opcodes.proofs.lists.ResumeTableLists.read_list.Goals as goal

pub returns-in-Err : goal.returns-in-Err
returns-in-Err c =
    let r = c.args.reader.now in
    memory_refused EncodesResumeTable is_resume_clauses resume_clauses (KindsMayAllocate (is_resume_clauses ∷ [])) (λ r. SomePrefix EncodesHandlerCount (rest r)) c.args.start c.in-Err.e c.refuse_from.result r c.from_reader.new.reader c.refuse_from.new.reader (of_resume_table r.features) c.requires.begun c.requires.within
    (λ sized. record { sized = sized; owns = resumes_own r.features (rest r) }) c.in-Err.ensures.reads c.refuse_from.ensures.back c.refuse_from.ensures.reported
