use Rattle.std.proofs.Common.{[], ◌∷◌}
use Rattle.wasm_below.specs.Source.{rest}
use Rattle.wasm_imm.specs.HandlerTables.{EncodesSelect, SelectAllocates}
use Rattle.wasm_imm.specs.Immediate.{select_types, is_select_types}
use Rattle.wasm_decode_opcodes.specs.Refused.{KindsMayAllocate}
use Rattle.wasm_decode_opcodes.proofs.KindLemmas.{memory_refused, of_select}
use Rattle.wasm_decode_opcodes.proofs.ListLemmas.{selects_own}
use Rattle.wasm_decode_opcodes.proofs.lists.SelectLists.read_list.Goals as goal

pub returns-in-Err : goal.returns-in-Err
returns-in-Err c =
    let r = c.args.reader.now in
    memory_refused EncodesSelect is_select_types select_types (KindsMayAllocate (is_select_types ∷ [])) SelectAllocates c.args.start c.in-Err.e c.refuse_from.result r c.read.new.reader c.refuse_from.new.reader (of_select r.features) c.requires.begun c.requires.within
    (λ may. record { sized = may.1; owns = selects_own r.features (rest r) may.0 }) c.in-Err.ensures c.refuse_from.ensures.back c.refuse_from.ensures.reported
