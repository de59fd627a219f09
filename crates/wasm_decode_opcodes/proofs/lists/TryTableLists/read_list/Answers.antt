use Rattle.std.proofs.Common.{[], ◌∷◌}
use Rattle.wasm_below.specs.Source.{rest, SomePrefix}
use Rattle.wasm_imm.specs.HandlerTables.{EncodesTryTable, EncodesTryTableCount}
use Rattle.wasm_imm.specs.Immediate.{try_clauses, is_try_clauses}
use Rattle.wasm_decode_opcodes.specs.Refused.{KindsMayAllocate}
use Rattle.wasm_decode_opcodes.proofs.KindLemmas.{memory_refused, of_try_table}
use Rattle.wasm_decode_opcodes.proofs.ListLemmas.{tries_own}
use Rattle.wasm_decode_opcodes.proofs.lists.TryTableLists.read_list.Goals as goal

pub returns-in-Err : goal.returns-in-Err
returns-in-Err c =
    let r = c.args.reader.now in
    memory_refused EncodesTryTable is_try_clauses try_clauses (KindsMayAllocate (is_try_clauses ∷ [])) (λ r. SomePrefix EncodesTryTableCount (rest r)) c.args.start c.in-Err.e c.refuse_from.result r c.from_reader.new.reader c.refuse_from.new.reader (of_try_table r.features) c.requires.begun c.requires.within
    (λ sized. record { sized = sized; owns = tries_own r.features (rest r) }) c.in-Err.ensures.reads c.refuse_from.ensures.back c.refuse_from.ensures.reported
