use Rattle.std.proofs.Common.{◌≡◌, [], ◌∷◌, ◌++◌, Ok, Err, inl, inr, refl}
use Rattle.wasm_index_names.proofs.Given.{named_more, names_end}
use Rattle.wasm_index_names.proofs.subsections.give_names.Goals as goal

pub subsections-init : goal.subsections-init
subsections-init c = rw c.new-names.ensures ([], (refl, refl), refl)

pub subsections-preserved : goal.subsections-preserved
subsections-preserved c =
    let (found, named, going) = c.subsections.invariant in
    let n = c.in-Ok.name in
    let item : c.in-Some.item ≡ Ok n = c.in-Ok.is in
    let steps = rw item at c.in-Some.ensures.steps in (
      found ++ n ∷ [],
      named_more c.args.contents c.subsections.names.reader c.next.new.self.reader found n c.args.given.now c.subsections.given c.give_name.new.given named steps.1
          c.in_default-give_name.ensures,
      steps.2,
    )

pub returns-in-Err : goal.returns-in-Err
returns-in-Err c =
    let (found, named, going) = c.subsections.invariant in
    let item : c.in-Some.item ≡ Err c.in-Err.field-0 = c.in-Err.is in
    let steps = rw item at c.in-Some.ensures.steps in
    (found, c.subsections.names.reader, named, inr (c.in-Err.field-0, steps.1.1))

pub returns : goal.returns
returns c =
    let (found, named, going) = c.subsections.invariant in
    (found, c.subsections.names.reader, named, inl (names_end c.subsections.names going c.in_default.ensures.steps.0))
