use Rattle.std.proofs.Common.{◌≡◌, ◌<◌, ◌≤◌, length, refl, rules}
use Rattle.std.specs.List.{slice_get}
use Rattle.std.specs.Option.{option_copied}
use Rattle.std.proofs.lemmas.Bool.{false≢true}
use Rattle.wasm_subtypes.specs.Types.{order_of}
use Rattle.wasm_subtypes.specs.Composites.{FieldFits}
use Rattle.wasm_subtypes.proofs.Comparing.{one_more_fits, one_differs, all_fit}
use Rattle.wasm_subtypes.proofs.composites.fields_match.Goals as goal

pub loop-place-preserved : goal.loop-place-preserved
loop-place-preserved c =
    let within : c.loop-place.place < length c.args.wanted.now = search rules in
    let found : option_copied c.field_at.result ≡ slice_get c.args.fields.now c.loop-place.place = c.field_at.ensures in
    one_more_fits (FieldFits (order_of c.args.types.now)) c.args.fields.now c.args.wanted.now c.loop-place.place (option_copied c.field_at.result) c.index-wanted-place.result
    c.loop-place.invariant within c.index-wanted-place.is found (c.if-not-field_fits.ensures.0 refl)

pub returns-then-not-field_fits : goal.returns-then-not-field_fits
returns-then-not-field_fits c =
    let within : c.loop-place.place < length c.args.wanted.now = search rules in
    let found : option_copied c.field_at.result ≡ slice_get c.args.fields.now c.loop-place.place = c.field_at.ensures in (
      (λ t. absurd (cc t)),
      (λ all. absurd (one_differs (FieldFits (order_of c.args.types.now)) c.args.fields.now c.args.wanted.now c.loop-place.place (option_copied c.field_at.result) c.index-wanted-place.result
          within c.index-wanted-place.is found (λ q. false≢true (c.if-not-field_fits.ensures.1 q)) all)),
    )

pub returns : goal.returns
returns c =
    let end : length c.args.wanted.now ≤ c.loop-place.place = search rules in (
      (λ t. all_fit (FieldFits (order_of c.args.types.now)) c.args.fields.now c.args.wanted.now c.loop-place.place end c.loop-place.invariant),
      (λ f. refl),
    )
