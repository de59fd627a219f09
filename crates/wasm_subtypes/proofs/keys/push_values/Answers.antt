use Rattle.std.proofs.Common.{◌≡◌, ◌<◌, ◌∷◌, [], ◌++◌, length, get_or, sym, ap, ◌∙◌, rules}
use Rattle.wasm_subtypes.specs.Keys.{use_number, value_number}
use Rattle.wasm_subtypes.proofs.Pushes.{one_more}
use Rattle.wasm_subtypes.proofs.keys.push_values.Goals as goal

pub loop-i-preserved : goal.loop-i-preserved
loop-i-preserved c =
    let within : c.loop-i.i < length c.args.values.now = search rules in
    let is : get_or c.args.values.now c.loop-i.i c.index-values-i.result ≡ c.index-values-i.result = sym c.index-values-i.is in
    one_more (value_number (use_number c.args.types.now (length c.args.types.now))) c.args.values.now c.loop-i.i c.index-values-i.result c.args.key.now.items c.loop-i.key.items c.push.new.self.items
    within is c.loop-i.invariant (c.in_ok-push.ensures.items ∙ ap (λ n. c.loop-i.key.items ++ n ∷ []) c.value_number.ensures.is)
