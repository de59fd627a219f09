use Rattle.std.proofs.Common.{[], refl, ◌∙◌}
use Rattle.std.proofs.lemmas.Bool.{false≢true}
use Rattle.wasm_operators.specs.below.Source.{reader_of}
use Rattle.uses.proofs.bodies.is_body.Goals as goal

pub returns-in-Err : goal.returns-in-Err
returns-in-Err c =
    let opens = rw (c.new-body.ensures ∙ c.new_features.ensures) at c.in-Err.ensures.opens in
    (λ is. absurd (false≢true is), λ body. absurd (c.refused_locals.ensures.none _ (reader_of c.args.features 0 c.args.bytes.now) body.0 body.1 opens body.2))

pub returns-in-Ok-read_all : goal.returns-in-Ok-read_all
returns-in-Ok-read_all c =
    let opens = rw (c.new-body.ensures ∙ c.new_features.ensures) at c.in-Ok.ensures.opens in
    let along = (c.in-Ok-read_all.ensures.rest [] c.in-Ok.ensures.read_so_far).tree in
    let whole = c.opened_bodies.ensures.whole (reader_of c.args.features 0 c.args.bytes.now) _ _ along.0 opens along.2 in
    (λ is. (whole.0, along.0, whole.1), λ body. refl)

pub returns : goal.returns
returns c =
    let r = reader_of c.args.features 0 c.args.bytes.now in
    let opens = rw (c.new-body.ensures ∙ c.new_features.ensures) at c.in-Ok.ensures.opens in
    let along = (c.in-Err-read_all.ensures.rest [] c.in-Ok.ensures.read_so_far).beginning in
    let e = c.in-Err-read_all.error in
    let stops = c.opened_bodies.ensures.stopped e r _ _ along.0 opens along.2 in
    (λ is. absurd (false≢true is), λ body. absurd (c.stopped_bodies.ensures.none e r along.0 body.1 body.0 (λ m. c.in_default.not-OutOfMemory (c.message.ensures ∙ m)) stops body.2))
