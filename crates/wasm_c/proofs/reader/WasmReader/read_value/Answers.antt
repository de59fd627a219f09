use Rattle.std.proofs.Common.{refl}
use Rattle.wasm_c.proofs.ValueReads.{no_kind, no_reader, no_value, value_found}
use Rattle.wasm_c.proofs.reader.WasmReader.read_value.Goals as goal

pub returns-in_default : goal.returns-in_default
returns-in_default c =
    no_kind c.args.bytes.now c.args.self.now c.args.number c.args.argument c.args.value.now c.misuse.result c.in_default.ensures c.misuse.ensures

pub returns-in_default-bytes_ahead : goal.returns-in_default-bytes_ahead
returns-in_default-bytes_ahead c =
    no_reader c.args.bytes.now c.args.self.now c.in-Some.kind c.args.number c.args.argument c.args.value.now c.misuse-in_default-bytes_ahead.result c.in-Some.ensures
    c.in_default-bytes_ahead.ensures.none c.misuse-in_default-bytes_ahead.ensures

pub returns-in-Ok : goal.returns-in-Ok
returns-in-Ok c =
    value_found c.args.bytes.now c.args.self.now (record c.args.self.now { position = c.current_position-position.result }) c.in-Some.kind c.args.number c.args.argument
    c.current_position-position.result c.original_position-offset.result c.in-Some-bytes_ahead.ahead c.read_kind.new.reader c.in-Ok.found c.args.value.now
    c.in-Ok.found c.none.result c.in-Some.ensures c.in-Some-bytes_ahead.ensures.ahead.0 c.in-Some-bytes_ahead.ensures.ahead.1 c.in-Ok.ensures
    c.current_position-position.ensures refl refl c.original_position-offset.ensures c.none.ensures

pub returns-in-Err : goal.returns-in-Err
returns-in-Err c =
    no_value c.args.bytes.now c.args.self.now c.in-Some.kind c.args.number c.args.argument c.in-Some-bytes_ahead.ahead c.read_kind.new.reader c.in-Err.error
    c.args.value.now c.of.result c.in-Some.ensures c.in-Some-bytes_ahead.ensures.ahead.0 c.in-Some-bytes_ahead.ensures.ahead.1 c.in-Err.ensures c.of.ensures
