use Rattle.wasm_c.proofs.Encoded.{decided, read_there, none_read}
use Rattle.wasm_c.proofs.encoding.reads_back.Goals as goal

pub returns-in-Ok : goal.returns-in-Ok
returns-in-Ok c =
    decided c.is_view_of.result c.args.features c.args.view.now c.in-Ok.op c.args.bytes.now c.is_view_of.ensures c.requires.bytes c.requires.plain
    (read_there c.args.features c.frame_for.result c.in-Ok.op c.new_features-ahead.result c.args.bytes.now c.new_features-ahead.ensures c.in-Ok.ensures)

pub returns-in-Err : goal.returns-in-Err
returns-in-Err c =
    none_read c.args.features c.args.view.now _ c.frame_for.result c.new_features-ahead.result c.args.bytes.now c.requires.bytes c.requires.plain c.frame_for.ensures
    c.new_features-ahead.ensures c.in-Err.ensures
