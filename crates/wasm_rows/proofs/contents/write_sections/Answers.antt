use Rattle.std.proofs.Common.{◌≡◌, ℕ, List, Bor, [], inl, inr, refl, rules}
use Rattle.std.specs.Prelude.{option_map}
use Rattle.wasm_below.specs.Source.{rest}
use Rattle.wasm_rows.proofs.Sections.{shows_none, shows_more}
use Rattle.wasm_rows.proofs.contents.write_sections.Goals as goal

pub sections-init : goal.sections-init
sections-init g c = shows_none (option_map (λ (text : Bor (List ℕ)). text.now) c.args.asked) c.args.sections (g.W.Write.contents c.args.writer.now)

pub sections-preserved : goal.sections-preserved
sections-preserved g c =
    let (shown, chosen, wrote) = c.in_default.ensures.ok in
    shows_more (option_map (λ (text : Bor (List ℕ)). text.now) c.args.asked) c.next_section.ensures.more c.args.sections c.sections.reader c.read_section.new.reader c.in-Ok.section
    shown (g.W.Write.contents c.args.writer.now) (g.W.Write.contents c.sections.writer) (g.W.Write.contents c.write_chosen.new.writer) c.sections.invariant
    c.in-Ok.ensures.reads c.in-Ok.ensures.placed chosen wrote

pub sections-smaller : goal.sections-smaller
sections-smaller g c = c.next_section.ensures.shorter c.sections.reader c.read_section.new.reader c.in-Ok.section c.in-Ok.ensures.reads

pub returns-in-Err : goal.returns-in-Err
returns-in-Err g c = (
  c.sections.reader,
  g.W.Write.contents c.sections.writer,
  c.sections.invariant,
  inl (c.in-Err.e, refl, (c.in-Err.ensures.reads.1, c.in-Err.ensures.reads.2), refl),
)

pub returns-in-Err-write_chosen : goal.returns-in-Err-write_chosen
returns-in-Err-write_chosen g c =
    let (chosen, halts, part) = c.in-Err-write_chosen.ensures.err in (
      c.sections.reader,
      g.W.Write.contents c.sections.writer,
      c.sections.invariant,
      inr (c.in-Ok.section, c.read_section.new.reader, c.in-Ok.ensures.reads, chosen, halts, part),
    )

pub returns : goal.returns
returns g c = let end : rest c.sections.reader ≡ [] = search rules in (c.sections.reader, c.sections.invariant, end)
