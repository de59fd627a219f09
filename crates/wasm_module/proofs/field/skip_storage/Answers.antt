use Rattle.std.proofs.lemmas.Bool.{both_ways}
use Rattle.wasm_module.proofs.Fields.{storage_read, storage_refused}
use Rattle.wasm_module.proofs.field.skip_storage.Goals as goal

pub returns-in-Ok : goal.returns-in-Ok
returns-in-Ok c = storage_read c.args.reader.now c.read.new.reader c.in-Ok.field-0 c.in-Ok.ensures

pub returns-in-Err : goal.returns-in-Err
returns-in-Err c =
    storage_refused c.in-Err.e c.args.reader.now c.read.new.reader (λ l. both_ways _ c.if-is_packed_next.false (c.is_packed_next.ensures.1 l))
    c.in-Err.ensures
