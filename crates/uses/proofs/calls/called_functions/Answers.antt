use Rattle.std.proofs.Common.{◌≡◌, [], false, ap, sym, ◌∙◌}
use Rattle.wasm_operators.specs.below.Source.{reader_of}
use Rattle.uses.specs.Calls.{Found}
use Rattle.uses.proofs.CallsAlong.{calls_along}
use Rattle.uses.proofs.calls.called_functions.Goals as goal

pub returns : goal.returns
returns c =
    let opens = rw (c.new-body.ensures ∙ c.new_features.ensures) at c.in_ok-get_operators_reader.ensures.opens in
    let along = (c.in_ok-visit_all_simd.ensures.rest [] c.in_ok-get_operators_reader.ensures.read_so_far).tree in
    let whole = c.opened_bodies.ensures.whole (reader_of c.args.features 0 c.args.bytes.now) _ _ along.0 opens along.2 in
    let after : Found = c.visit_all_simd.new.v in
    let same : record { calls = c.found.inside.calls.items; refused = c.found.inside.refused } ≡ after = c.found.view_is in
    let ok : after.refused ≡ false = ap (λ (s : Found). s.refused) (sym same) ∙ c.if-refused.false in (
      whole.0,
      along.0,
      whole.1,
      ap (λ (s : Found). s.calls) same ∙ calls_along along.0 (record { calls = c.new.result.items; refused = false }) after c.new.ensures.items ok along.1,
    )
