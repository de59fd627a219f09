use Rattle.wasm_module.proofs.Composites.{function_read, function_refused, struct_read, struct_refused, array_read, array_refused}
use Rattle.wasm_module.proofs.composite.read_after_byte.Goals as goal

pub returns-in-Ok : goal.returns-in-Ok
returns-in-Ok c = function_read c.args.kind c.in-96.is c.in-Ok.ensures

pub returns-in-Err : goal.returns-in-Err
returns-in-Err c = function_refused c.args.kind c.in-96.is c.in-Err.ensures

pub returns-in-Ok-read_length : goal.returns-in-Ok-read_length
returns-in-Ok-read_length c = struct_read c.args.kind c.in-95.is c.in-Ok-read_length.ensures

pub returns-in-Err-read_length : goal.returns-in-Err-read_length
returns-in-Err-read_length c = struct_refused c.args.kind c.in-95.is c.in-Err-read_length.ensures

pub returns-in-Ok-read_item : goal.returns-in-Ok-read_item
returns-in-Ok-read_item c = array_read c.args.kind c.in-94.is c.in-Ok-read_item.ensures

pub returns-in-Err-read_item : goal.returns-in-Err-read_item
returns-in-Err-read_item c = array_refused c.args.kind c.in-94.is c.in-Err-read_item.ensures
