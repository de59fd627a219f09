use Rattle.std.proofs.Common.{◌≡◌, [], Err, inl, inr, rules}
use Rattle.std.proofs.lemmas.Result.{err_from_is_err_and}
use Rattle.wasm_operators.specs.below.Source.{rest}
use Rattle.wasm_disassembly.specs.Headers.{ListsSections, IsSectionFault}
use Rattle.wasm_disassembly.proofs.Shown.{shows_none, shows_more, at_halt}
use Rattle.wasm_disassembly.proofs.headers.list_sections.Goals as goal

pub sections-init : goal.sections-init
sections-init g c = shows_none c.args.sections (g.W.Write.contents c.args.writer.now)

pub sections-preserved : goal.sections-preserved
sections-preserved g c =
    shows_more c.next_section.ensures.more c.args.sections c.sections.reader c.read_section.new.reader c.in-Ok.section c.in-Ok-detail_of.detail (g.W.Write.contents c.args.writer.now)
    (g.W.Write.contents c.sections.writer) (g.W.Write.contents c.write_section.new.writer) c.sections.invariant c.in-Ok.ensures.reads c.in-Ok.ensures.placed
    c.in-Ok-detail_of.ensures c.in_ok-write_section.ensures.ok

pub sections-smaller : goal.sections-smaller
sections-smaller g c = c.next_section.ensures.shorter c.sections.reader c.read_section.new.reader c.in-Ok.section c.in-Ok.ensures.reads

pub returns-in-Err-clause-lists : goal.returns-in-Err-clause-lists
returns-in-Err-clause-lists g c = (c.sections.reader, c.sections.invariant, inl (c.in-Err.ensures.reads.1, c.in-Err.ensures.reads.2))

pub returns-in-Err-detail_of-clause-lists : goal.returns-in-Err-detail_of-clause-lists
returns-in-Err-detail_of-clause-lists g c =
    (c.sections.reader, c.sections.invariant, inr (c.in-Ok.section, c.read_section.new.reader, c.in-Ok.ensures.reads, c.in-Err-detail_of.ensures))

pub returns-in_err-write_section-clause-lists : goal.returns-in_err-write_section-clause-lists
returns-in_err-write_section-clause-lists g c =
    let p = err_from_is_err_and c.from_residual.result c.from_residual.ensures.1 in
    rw (p.1, p.2) (at_halt (λ f. ListsSections {X = Unit {0}} c.args.sections (Err f) (g.W.Write.contents c.args.writer.now)
    (g.W.Write.contents c.write_section.new.writer)) c.in_err-write_section.field-0.0 c.in_err-write_section.ensures.halts tt tt)

pub returns-in_err-write_section-clause-kinds : goal.returns-in_err-write_section-clause-kinds
returns-in_err-write_section-clause-kinds g c =
    let p = err_from_is_err_and c.from_residual.result c.from_residual.ensures.1 in
    rw (p.1, p.2) (at_halt (λ f. IsSectionFault f) c.in_err-write_section.field-0.0 c.in_err-write_section.ensures.halts tt tt)

pub returns-clause-lists : goal.returns-clause-lists
returns-clause-lists g c = let end : rest c.sections.reader ≡ [] = search rules in (c.sections.reader, c.sections.invariant, end)
