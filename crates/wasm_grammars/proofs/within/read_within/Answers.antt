use Rattle.std.proofs.Common.{◌≡◌, ◌≤◌, refl, subst, ap, ◌∙◌, arith}
use Rattle.std.proofs.lemmas.Bool.{false≢true}
use Rattle.wasm_below.specs.Source.{Reader, reader_of, offset_of, Takes}
use Rattle.wasm_grammars.specs.Grammar.{HasReadBy}
use Rattle.wasm_grammars.specs.Reading.{Fails}
use Rattle.wasm_grammars.proofs.Inside.{starts_at, inside_fails, left_over}
use Rattle.wasm_grammars.proofs.Steps.{stays}
use Rattle.wasm_grammars.proofs.within.read_within.Goals as goal

pub returns-in_err-value : goal.returns-in_err-value
returns-in_err-value g c =
    let h = (g.T.Read.grammar c.args.reader.now.features) in
    let old = c.args.reader.now in
    let inside = c.part-inside.result in
    let (text, p, t) = c.in_ok-bytes.ensures in
    let taken : Takes old c.read_bytes.new.self text = subst (λ r. Takes r c.read_bytes.new.self text) c.clone-ahead.ensures t in
    let at : inside ≡ reader_of old.features (offset_of old) text =
    c.part-inside.ensures ∙ ap (λ o. reader_of old.features o c.in_ok-bytes.bytes.now) c.original_position.ensures ∙ ap (λ z. reader_of old.features (offset_of old) z) p.0 in
    let error = subst (λ f. Fails (g.T.Read.grammar f) (offset_of old) c.in_err-value.field-0.0 inside) (ap (λ (r : Reader). r.features) at)
    (subst (λ s. Fails (g.T.Read.grammar inside.features) s c.in_err-value.field-0.0 inside) (starts_at c.args.left_over h c.is_within.ensures p.1 taken at) c.in_err-value.ensures.1) in
    stays _ c.from_residual-in_err-value.ensures.1 (inside_fails c.args.left_over h c.is_within.ensures p.1 taken at error)

pub returns-then-not-eof : goal.returns-then-not-eof
returns-then-not-eof g c =
    let h = (g.T.Read.grammar c.args.reader.now.features) in
    let old = c.args.reader.now in
    let inside = c.part-inside.result in
    let (text, p, t) = c.in_ok-bytes.ensures in
    let taken : Takes old c.read_bytes.new.self text = subst (λ r. Takes r c.read_bytes.new.self text) c.clone-ahead.ensures t in
    let at : inside ≡ reader_of old.features (offset_of old) text =
    c.part-inside.ensures ∙ ap (λ o. reader_of old.features o c.in_ok-bytes.bytes.now) c.original_position.ensures ∙ ap (λ z. reader_of old.features (offset_of old) z) p.0 in
    let value = subst (λ f. HasReadBy (g.T.Read.grammar f) c.in_ok-value.value inside c.read_from.new.reader) (ap (λ (r : Reader). r.features) at) c.in_ok-value.ensures in
    let here : offset_of old ≤ offset_of old = omega arith in (
      refl,
      left_over c.args.left_over h c.is_within.ensures p.1 taken at c.in_ok-value.value here value (λ e. false≢true (c.if-not-eof.ensures.1 e)) c.requires c.new.ensures.message
          (c.new.ensures.offset ∙ c.original_position-then-not-eof.ensures),
    )
