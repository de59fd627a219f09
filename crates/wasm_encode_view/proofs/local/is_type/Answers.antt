use Rattle.std.proofs.Common.{ap}
use Rattle.wasm_below.specs.Source.{rest}
use Rattle.wasm_encode_view.proofs.LocalTypes.{decided, none}
use Rattle.wasm_encode_view.proofs.local.is_type.Goals as goal

pub returns-in-Ok : goal.returns-in-Ok
returns-in-Ok c =
    decided c.same_type.result c.args.view.now _ c.args.bytes.now c.in-Ok.ty c.new-reader.result _ c.same_type.ensures c.type_of.ensures c.requires
    (ap rest c.new-reader.ensures) c.in-Ok.ensures

pub returns-in-Err : goal.returns-in-Err
returns-in-Err c = none c.args.view.now c.args.bytes.now _ c.new-reader.result c.requires (ap rest c.new-reader.ensures) c.in-Err.ensures.1
