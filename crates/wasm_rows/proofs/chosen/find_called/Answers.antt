use Rattle.std.proofs.Common.{◌≡◌, [], ◌∷◌, ◌++◌, Some, inl, inr, refl, subst, rules}
use Rattle.wasm_below.specs.Source.{rest}
use Rattle.wasm_rows.specs.Contents.{IsChosen}
use Rattle.wasm_rows.proofs.Sections.{none_more}
use Rattle.wasm_rows.proofs.chosen.find_called.Goals as goal

pub sections-init : goal.sections-init
sections-init c = ([], refl, tt)

pub sections-preserved : goal.sections-preserved
sections-preserved c =
    let (before, occur, none) = c.sections.invariant in
    let s = c.in-Ok.section in
    let chosen = subst (λ b. IsChosen (Some c.args.name.now) s b) c.if-is_called.false c.is_called.ensures in (
      before ++ s ∷ [],
      c.next_section.ensures.more c.args.sections before c.sections.reader c.read_section.new.reader s occur c.in-Ok.ensures.reads c.in-Ok.ensures.placed,
      none_more c.args.name.now before s none chosen,
    )

pub sections-smaller : goal.sections-smaller
sections-smaller c = c.next_section.ensures.shorter c.sections.reader c.read_section.new.reader c.in-Ok.section c.in-Ok.ensures.reads

pub returns-in-Err : goal.returns-in-Err
returns-in-Err c =
    let (before, occur, none) = c.sections.invariant in
    (before, c.sections.reader, occur, none, inr (c.in-Err.field-0, (c.in-Err.ensures.reads.1, c.in-Err.ensures.reads.2)))

pub returns-then-is_called : goal.returns-then-is_called
returns-then-is_called c =
    let (before, occur, none) = c.sections.invariant in
    let s = c.in-Ok.section in
    (before, c.sections.reader, c.read_section.new.reader, occur, s, c.in-Ok.ensures.reads, subst (λ b. IsChosen (Some c.args.name.now) s b) c.if-is_called.true c.is_called.ensures)

pub returns : goal.returns
returns c =
    let (before, occur, none) = c.sections.invariant in
    let end : rest c.sections.reader ≡ [] = search rules in (before, c.sections.reader, occur, none, inl end)
