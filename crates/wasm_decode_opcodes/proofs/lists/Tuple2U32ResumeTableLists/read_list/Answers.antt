use Rattle.std.proofs.Common.{[], ◌∷◌}
use Rattle.wasm_below.specs.Number.{EncodesUnsigned}
use Rattle.wasm_imm.specs.Immediate.{unsigned_32, resume_clauses, is_unsigned_32, is_resume_clauses}
use Rattle.wasm_decode_opcodes.specs.Refused.{KindsMayAllocate}
use Rattle.wasm_decode_opcodes.proofs.KindLemmas.{first_refused, later_refused, later_read, of_unsigned}
use Rattle.wasm_decode_opcodes.proofs.ListLemmas.{index_before}
use Rattle.wasm_decode_opcodes.proofs.lists.Tuple2U32ResumeTableLists.read_list.Goals as goal

pub returns-in-Ok-read_list : goal.returns-in-Ok-read_list
returns-in-Ok-read_list c =
    let r = c.args.reader.now in
    later_read (EncodesUnsigned 32) is_unsigned_32 (is_resume_clauses ∷ []) unsigned_32 r c.read_var_u32.new.self c.read_list.new.reader c.in-Ok.first (resume_clauses c.in-Ok-read_list.second ∷ []) (of_unsigned r.features) c.in-Ok.ensures c.in-Ok-read_list.ensures

pub returns-in-Err-read_list : goal.returns-in-Err-read_list
returns-in-Err-read_list c =
    let r = c.args.reader.now in
    let ks = is_resume_clauses ∷ [] in
    later_refused (EncodesUnsigned 32) is_unsigned_32 ks unsigned_32 (KindsMayAllocate (is_unsigned_32 ∷ ks)) (KindsMayAllocate ks) c.args.start c.in-Err-read_list.e r c.read_var_u32.new.self c.read_list.new.reader c.in-Ok.first (of_unsigned r.features) c.in-Ok.ensures
    (index_before ks r c.read_var_u32.new.self c.in-Ok.first c.in-Ok.ensures) c.in-Err-read_list.ensures

pub returns-in-Err : goal.returns-in-Err
returns-in-Err c =
    let r = c.args.reader.now in
    let ks = is_resume_clauses ∷ [] in
    first_refused (EncodesUnsigned 32) is_unsigned_32 ks unsigned_32 (KindsMayAllocate (is_unsigned_32 ∷ ks)) c.args.start c.in-Err.e r c.read_var_u32.new.self c.rewind.new.self (of_unsigned r.features) c.requires.begun c.in-Err.ensures c.rewind.ensures
