use Rattle.wasm_module.proofs.Fields.{packed_read, packed_there}
use Rattle.wasm_module.proofs.field.skip_packed.Goals as goal

pub returns-in-Ok : goal.returns-in-Ok
returns-in-Ok c = packed_read c.args.reader.now c.read_u8.new.self c.in-Ok.field-0 c.requires c.in-Ok.ensures

pub returns-in-Err : goal.returns-in-Err
returns-in-Err c = absurd (packed_there c.args.reader.now c.read_u8.new.self c.in-Err.e c.requires c.in-Err.ensures)
