use Rattle.std.proofs.Common.{◌≡◌, ◌<◌, ◌∷◌, [], ◌++◌, length, get_or, sym, ap, ◌∙◌, rules}
use Rattle.wasm_subtypes.specs.Keys.{use_number, field_number}
use Rattle.wasm_subtypes.proofs.Pushes.{one_more}
use Rattle.wasm_subtypes.proofs.keys.push_fields.Goals as goal

pub loop-i-preserved : goal.loop-i-preserved
loop-i-preserved c =
    let within : c.loop-i.i < length c.args.fields.now = search rules in
    let is : get_or c.args.fields.now c.loop-i.i c.index-fields-i.result ≡ c.index-fields-i.result = sym c.index-fields-i.is in
    one_more (field_number (use_number c.args.types.now (length c.args.types.now))) c.args.fields.now c.loop-i.i c.index-fields-i.result c.args.key.now.items c.loop-i.key.items c.push.new.self.items
    within is c.loop-i.invariant (c.in_ok-push.ensures.items ∙ ap (λ n. c.loop-i.key.items ++ n ∷ []) c.field_number.ensures)
