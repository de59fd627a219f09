use Rattle.std.proofs.Common.{◌≡◌, [], ◌∷◌, ◌++◌, inl, inr, refl, rules}
use Rattle.wasm_below.specs.Source.{rest}
use Rattle.wasm_index_names.proofs.Given.{sections_more, at_section}
use Rattle.wasm_index_names.proofs.named_sections.give_sections.Goals as goal

pub sections-init : goal.sections-init
sections-init c = ([], refl, refl)

pub sections-preserved : goal.sections-preserved
sections-preserved c =
    let (found, occur, given) = c.sections.invariant in
    let s = c.in-Ok.section in (
      found ++ s ∷ [],
      c.next_section.ensures.more c.args.sections found c.sections.reader c.read_section.new.reader s occur c.in-Ok.ensures.reads c.in-Ok.ensures.placed,
      sections_more found s c.args.given.now c.sections.given c.give_section.new.given given
          (at_section s c.id.result c.contents.result c.sections.given c.give_section.new.given c.id.ensures c.contents.ensures c.in_default.ensures),
    )

pub sections-smaller : goal.sections-smaller
sections-smaller c = c.next_section.ensures.shorter c.sections.reader c.read_section.new.reader c.in-Ok.section c.in-Ok.ensures.reads

pub returns-in-Err : goal.returns-in-Err
returns-in-Err c =
    let (found, occur, given) = c.sections.invariant in
    (found, c.sections.reader, occur, given, inr (c.in-Err.field-0, (c.in-Err.ensures.reads.1, c.in-Err.ensures.reads.2)))

pub returns : goal.returns
returns c =
    let (found, occur, given) = c.sections.invariant in
    let end : rest c.sections.reader ≡ [] = search rules in (found, c.sections.reader, occur, given, inl end)
