use Rattle.std.proofs.Common.{◌≡◌, ◌<◌, length, get_or, refl, sym, arith, rules}
use Rattle.std.proofs.lemmas.Bool.{false≢true}
use Rattle.wasm_subtypes.specs.Types.{order_of}
use Rattle.wasm_subtypes.specs.Composites.{ValueMatches}
use Rattle.wasm_subtypes.proofs.Comparing.{each_length, left_next, left_differs}
use Rattle.wasm_subtypes.proofs.composites.values_match.Goals as goal

pub returns-then-found-wanted : goal.returns-then-found-wanted
returns-then-found-wanted c = ((λ t. absurd (cc t)), (λ e. let n = each_length _ _ _ e in absurd (grind (arith, n, c.if-found-wanted.true))))

pub loop-i-preserved : goal.loop-i-preserved
loop-i-preserved c =
    let same : length c.args.found.now ≡ length c.args.wanted.now = grind (arith, c.if-found-wanted.false) in
    let within : c.loop-i.i < length c.args.found.now = search rules in
    let is : get_or c.args.found.now c.loop-i.i c.index-found-i.result ≡ c.index-found-i.result = sym c.index-found-i.is in
    let too : get_or c.args.wanted.now c.loop-i.i c.index-wanted-i.result ≡ c.index-wanted-i.result = sym c.index-wanted-i.is in
    left_next (ValueMatches (order_of c.args.types.now)) c.args.found.now c.args.wanted.now same c.loop-i.i within c.index-found-i.result c.index-wanted-i.result is too
    c.loop-i.invariant (c.if-not-value_matches.ensures.0 refl)

pub returns-then-not-value_matches : goal.returns-then-not-value_matches
returns-then-not-value_matches c =
    let same : length c.args.found.now ≡ length c.args.wanted.now = grind (arith, c.if-found-wanted.false) in
    let within : c.loop-i.i < length c.args.found.now = search rules in
    let is : get_or c.args.found.now c.loop-i.i c.index-found-i.result ≡ c.index-found-i.result = sym c.index-found-i.is in
    let too : get_or c.args.wanted.now c.loop-i.i c.index-wanted-i.result ≡ c.index-wanted-i.result = sym c.index-wanted-i.is in (
      (λ t. absurd (cc t)),
      (λ e. absurd (left_differs (ValueMatches (order_of c.args.types.now)) c.args.found.now c.args.wanted.now same c.loop-i.i within c.index-found-i.result c.index-wanted-i.result is too
          c.loop-i.invariant (λ p. false≢true (c.if-not-value_matches.ensures.1 p)) e)),
    )
