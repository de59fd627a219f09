use Rattle.std.proofs.Common.{◌≡◌, ℕ, List, Bor, [], Ok, Err, inl, inr, refl, ap, ◌∙◌, rules}
use Rattle.std.specs.Prelude.{option_map}
use Rattle.wasm_below.specs.Source.{rest}
use Rattle.wasm_details.specs.Contents.{first_place}
use Rattle.wasm_details.proofs.Shown.{constants_of, shows_none, shows_more, at_place}
use Rattle.wasm_details.proofs.module.write_details.Goals as goal

pub sections-init : goal.sections-init
sections-init g c =
    let asked = option_map (λ (text : Bor (List ℕ)). text.now) c.args.asked in
    rw c.none-imported.ensures (shows_none (constants_of g.C.Read.grammar g.C.ConstantDetails.shows) c.args.names.now asked c.args.sections
    (g.W.Write.contents c.args.writer.now))

pub sections-preserved : goal.sections-preserved
sections-preserved g c =
    let asked = option_map (λ (text : Bor (List ℕ)). text.now) c.args.asked in
    let k = constants_of g.C.Read.grammar g.C.ConstantDetails.shows in
    let s = c.in-Ok.section in
    let j = c.sections.imported in
    let between = g.W.Write.contents c.sections.writer in
    let new = g.W.Write.contents c.write_chosen.new.writer in
    let place = c.first_place-place.ensures ∙ ap (λ n. first_place n j) c.id.ensures in
    let lists = at_place k c.args.names.now asked s c.first_place-place.result (first_place s.id j) (Ok c.in-Ok-write_chosen.after) between new place
    c.in-Ok-write_chosen.ensures in
    shows_more k c.args.names.now asked c.next_section.ensures.more c.args.sections c.sections.reader c.read_section.new.reader s j c.in-Ok-write_chosen.after
    (g.W.Write.contents c.args.writer.now) between new c.sections.invariant c.in-Ok.ensures.reads c.in-Ok.ensures.placed lists

pub sections-smaller : goal.sections-smaller
sections-smaller g c = c.next_section.ensures.shorter c.sections.reader c.read_section.new.reader c.in-Ok.section c.in-Ok.ensures.reads

pub returns-in-Err : goal.returns-in-Err
returns-in-Err g c = (
  c.sections.reader,
  c.sections.imported,
  g.W.Write.contents c.sections.writer,
  c.sections.invariant,
  inl (c.in-Err.e, refl, (c.in-Err.ensures.reads.1, c.in-Err.ensures.reads.2), refl),
)

pub returns-in-Err-write_chosen : goal.returns-in-Err-write_chosen
returns-in-Err-write_chosen g c =
    let asked = option_map (λ (text : Bor (List ℕ)). text.now) c.args.asked in
    let k = constants_of g.C.Read.grammar g.C.ConstantDetails.shows in
    let s = c.in-Ok.section in
    let j = c.sections.imported in
    let between = g.W.Write.contents c.sections.writer in
    let new = g.W.Write.contents c.write_chosen.new.writer in
    let place = c.first_place-place.ensures ∙ ap (λ n. first_place n j) c.id.ensures in
    let lists = at_place k c.args.names.now asked s c.first_place-place.result (first_place s.id j) (Err c.in-Err-write_chosen.fault) between new place
    c.in-Err-write_chosen.ensures in
    (c.sections.reader, j, between, c.sections.invariant, inr (s, c.read_section.new.reader, c.in-Ok.ensures.reads, lists))

pub returns : goal.returns
returns g c = let end : rest c.sections.reader ≡ [] = search rules in (c.sections.reader, c.sections.imported, c.sections.invariant, end)
