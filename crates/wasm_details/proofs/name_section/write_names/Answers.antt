use Rattle.std.proofs.Common.{◌≡◌, [], ◌∷◌, ◌++◌, Ok, Err, inl, inr, refl}
use Rattle.wasm_details.proofs.Named.{named_more, names_end}
use Rattle.wasm_details.proofs.name_section.write_names.Goals as goal

pub subsections-init : goal.subsections-init
subsections-init g c = rw c.new-names.ensures ([], (refl, refl), refl)

pub subsections-preserved : goal.subsections-preserved
subsections-preserved g c =
    let (found, named, going) = c.subsections.invariant in
    let n = c.in-Ok.name in
    let item : c.in-Some.item ≡ Ok n = c.in-Ok.is in
    let steps = rw item at c.in-Some.ensures.steps in (
      found ++ n ∷ [],
      named_more c.args.place c.args.contents c.subsections.names.reader c.next.new.self.reader found n c.in-Ok-write_name.after
          (g.W.Write.contents c.args.writer.now) (g.W.Write.contents c.subsections.writer) (g.W.Write.contents c.write_name.new.writer) named steps.1
          c.in-Ok-write_name.ensures,
      steps.2,
    )

pub returns-in-Err : goal.returns-in-Err
returns-in-Err g c =
    let (found, named, going) = c.subsections.invariant in
    let item : c.in-Some.item ≡ Err c.in-Err.e = c.in-Err.is in
    let steps = rw item at c.in-Some.ensures.steps in
    (found, c.subsections.names.reader, g.W.Write.contents c.subsections.writer, named, inl (c.in-Err.e, refl, steps.1.1, refl))

pub returns-in-Err-write_name : goal.returns-in-Err-write_name
returns-in-Err-write_name g c =
    let (found, named, going) = c.subsections.invariant in
    let n = c.in-Ok.name in
    let item : c.in-Some.item ≡ Ok n = c.in-Ok.is in
    let steps = rw item at c.in-Some.ensures.steps in
    (found, c.subsections.names.reader, g.W.Write.contents c.subsections.writer, named, inr (n, c.next.new.self.reader, steps.1, c.in-Err-write_name.ensures))

pub returns : goal.returns
returns g c =
    let (found, named, going) = c.subsections.invariant in
    (found, c.subsections.names.reader, named, names_end c.subsections.names going c.in_default.ensures.steps.0, refl)
