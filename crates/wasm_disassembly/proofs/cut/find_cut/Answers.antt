use Rattle.std.proofs.Common.{◌≡◌, [], ◌∷◌, ◌++◌, refl, rules, arith}
use Rattle.wasm_operators.specs.below.Source.{rest, reader_of}
use Rattle.wasm_disassembly.proofs.Cuts.{cut_at, no_cut_before, no_cut_in}
use Rattle.wasm_disassembly.proofs.cut.find_cut.Goals as goal

pub sections-init : goal.sections-init
sections-init c = ([], refl)

pub sections-preserved : goal.sections-preserved
sections-preserved c =
    let h = c.sections.invariant in
    let s = c.in-Ok-read_section.section in
    let read = c.in-Ok-read_section.ensures in
    (h.0 ++ s ∷ [], c.next_section.ensures.more c.in-Ok.reader h.0 c.sections.reader c.read_section.new.reader s h.1 read.reads read.placed)

pub sections-smaller : goal.sections-smaller
sections-smaller c = c.next_section.ensures.shorter c.sections.reader c.read_section.new.reader c.in-Ok-read_section.section c.in-Ok-read_section.ensures.reads

pub returns-in-Err-clause-cut : goal.returns-in-Err-clause-cut
returns-in-Err-clause-cut c = no_cut_before (reader_of c.args.features 0 c.args.bytes.now) c.in-Err.ensures.refused

pub returns-in-Err-read_section-clause-cut : goal.returns-in-Err-read_section-clause-cut
returns-in-Err-read_section-clause-cut c =
    let h = c.sections.invariant in
    let more : rest c.sections.reader ≡ [] → ⊥ = search rules in
    let read = c.in-Err-read_section.ensures in
    let left = c.bytes_remaining-left.ensures in
    let less = c.saturating_sub.ensures in
    cut_at (reader_of c.args.features 0 c.args.bytes.now) c.in-Ok.reader c.sections.reader h.0 c.in-Err-read_section.e _
    c.in-Ok.ensures.ok h.1 more read.reads.1 read.reads.2 (omega (arith, left, less))

pub returns-clause-cut : goal.returns-clause-cut
returns-clause-cut c =
    let end : rest c.sections.reader ≡ [] = search rules in
    no_cut_in c.refusals.ensures.none (reader_of c.args.features 0 c.args.bytes.now) c.in-Ok.reader c.sections.reader c.sections.invariant.0
    c.in-Ok.ensures.ok c.sections.invariant.1 end
