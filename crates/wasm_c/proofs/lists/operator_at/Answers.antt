use Rattle.std.proofs.Common.{Ok, Err}
use Rattle.wasm_c.proofs.Members.{FindsBytes, reads_ahead, reads_nothing, occurs_there, refuses_there}
use Rattle.wasm_c.proofs.lists.operator_at.Goals as goal

pub returns-in-Ok-peek_operator : goal.returns-in-Ok-peek_operator
returns-in-Ok-peek_operator c =
    let s = c.in-Ok.ensures in
    let found : FindsBytes (Ok c.in-Ok.ahead) c.args.bytes.now c.args.offset c.args.features c.args.at =
    record { unknown = s.unknown; past = s.past; before = s.before; after = s.after; there = s.there } in
    reads_ahead (Ok c.in-Ok-peek_operator.op) c.in-Ok.ahead c.args.bytes.now c.args.offset c.args.features c.args.at found
    (occurs_there c.in-Ok-peek_operator.op c.in-Ok.ahead c.in-Ok-peek_operator.ensures)

pub returns-in-Err-peek_operator : goal.returns-in-Err-peek_operator
returns-in-Err-peek_operator c =
    let s = c.in-Ok.ensures in
    let found : FindsBytes (Ok c.in-Ok.ahead) c.args.bytes.now c.args.offset c.args.features c.args.at =
    record { unknown = s.unknown; past = s.past; before = s.before; after = s.after; there = s.there } in
    reads_ahead (Err c.of.result) c.in-Ok.ahead c.args.bytes.now c.args.offset c.args.features c.args.at found
    (refuses_there c.in-Err-peek_operator.error c.of.result c.in-Ok.ahead c.in-Err-peek_operator.ensures c.of.ensures)

pub returns-in-Err : goal.returns-in-Err
returns-in-Err c =
    let s = c.in-Err.ensures in
    let found : FindsBytes (Err c.in-Err.refused) c.args.bytes.now c.args.offset c.args.features c.args.at =
    record { unknown = s.unknown; past = s.past; before = s.before; after = s.after; there = s.there } in
    reads_nothing c.in-Err.refused c.args.bytes.now c.args.offset c.args.features c.args.at found
