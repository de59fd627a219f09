use Rattle.std.proofs.Common.{◌++◌, refl}
use Rattle.wasm_below.proofs.TakesLemmas.{takes_then}
use Rattle.wasm_imm.proofs.HandlerTables.{type_missing, catches_refused}
use Rattle.wasm_imm.proofs.handler_tables.TryTableFromReader.from_reader.Goals as goal

pub returns-in-Ok-read_list-clause-reads : goal.returns-in-Ok-read_list-clause-reads
returns-in-Ok-read_list-clause-reads c =
    let t = c.in-Ok.ensures in
    let l = c.in-Ok-read_list.ensures in
    (t.0 ++ l.0, (t.0, l.0, refl, t.1, l.1), takes_then c.args.reader.now c.read.new.reader c.read_list.new.reader t.0 l.0 t.2 l.2)

pub returns-in-Err-clause-reads : goal.returns-in-Err-clause-reads
returns-in-Err-clause-reads c = type_missing c.in-Err.e c.args.reader.now c.read.new.reader c.in-Err.ensures

pub returns-in-Err-read_list-clause-reads : goal.returns-in-Err-read_list-clause-reads
returns-in-Err-read_list-clause-reads c =
    catches_refused c.in-Err-read_list.e c.refuse_from.result c.args.reader.now c.read.new.reader c.read_list.new.reader c.refuse_from.new.reader c.in-Ok.ty
    c.current_position-start.result c.in-Ok.ensures c.in-Err-read_list.ensures c.current_position-start.ensures c.refuse_from.ensures.back
    c.refuse_from.ensures.reported
