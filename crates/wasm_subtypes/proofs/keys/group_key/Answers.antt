use Rattle.std.proofs.Common.{◌≡◌, ◌<◌, length, get_or, sym, rules}
use Rattle.wasm_subtypes.specs.Keys.{use_number}
use Rattle.wasm_subtypes.proofs.Pushes.{one_more_type}
use Rattle.wasm_subtypes.proofs.keys.group_key.Goals as goal

pub loop-i-preserved : goal.loop-i-preserved
loop-i-preserved c =
    let within : c.loop-i.i < length c.args.group.now = search rules in
    let is : get_or c.args.group.now c.loop-i.i c.index-group-i.result ≡ c.index-group-i.result = sym c.index-group-i.is in
    one_more_type (use_number c.args.types.now (length c.args.types.now)) c.args.group.now c.loop-i.i c.index-group-i.result c.loop-i.key.items c.push_type.new.key.items
    within is c.loop-i.invariant c.in_ok-push_type.ensures
