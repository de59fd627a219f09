use Rattle.wasm_c.proofs.Encoded.{without_list, plain_view}
use Rattle.wasm_c.proofs.encoding.write_view_of.Goals as goal

pub returns-else-has_list : goal.returns-else-has_list
returns-else-has_list c =
    let known = c.in-Ok.ensures.known in
    plain_view c.args.view.now c.write_plain.result c.in-Ok.known c.args.bytes.now c.args.offset c.args.features _ _ _ _ known.0 known.1 known.2
    (without_list c.args.view.now c.has_list.result c.has_list.ensures c.if-has_list.false) c.write_plain.ensures
