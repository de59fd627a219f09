use Rattle.std.proofs.Common.{◌≡◌, [], take, rules}
use Rattle.std.proofs.lemmas.Result.{err_from_is_err_and}
use Rattle.wasm_below.specs.Features.{all_features}
use Rattle.wasm_below.specs.Source.{rest, reader_of}
use Rattle.wasm_module.proofs.Refused.{sections_to}
use Rattle.wasm_compaction.proofs.Refused.{section_refused}
use Rattle.wasm_compaction.proofs.Sections.{module_done, module_no_longer, next_section_read, opened, preamble_taken, section_slice}
use Rattle.wasm_compaction.proofs.module.compact.Goals as goal

pub compact_section-requires : goal.compact_section-requires
compact_section-requires c =
    let first = opened c.all.result c.args.bytes.now c.in-Ok.reader c.all.ensures c.in-Ok.ensures.ok in
    section_slice c.args.bytes.now c.in-Ok.reader c.sections.reader c.read_section.new.reader c.sections.invariant.consumed c.remaining_buffer-before.result.now
    c.bytes_remaining.result c.in-Ok-read_section.section first c.sections.invariant.takes c.in-Ok-read_section.ensures.reads c.remaining_buffer-before.ensures
    c.bytes_remaining.ensures

pub sections-preserved : goal.sections-preserved
sections-preserved c =
    next_section_read c.args.choices c.in-Ok.reader c.sections.reader c.read_section.new.reader c.append_bytes.new.out.items c.sections.out.items
    c.compact_section.new.out.items c.remaining_buffer-before.result.now c.bytes_remaining.result c.in-Ok-read_section.section c.sections.invariant
    c.in-Ok-read_section.ensures.reads c.in-Ok-read_section.ensures.placed c.remaining_buffer-before.ensures c.bytes_remaining.ensures
    c.in_ok-compact_section.ensures.appends

pub returns-in_err-compact_section-clause-refuses :
    goal.returns-in_err-compact_section-clause-refuses
returns-in_err-compact_section-clause-refuses c =
    let p = err_from_is_err_and c.from_residual-in_err-compact_section.result c.from_residual-in_err-compact_section.ensures.1 in
    let more : rest c.sections.reader ≡ [] → ⊥ = search rules in
    let whole = reader_of all_features 0 c.args.bytes.now in
    let first = opened c.all.result c.args.bytes.now c.in-Ok.reader c.all.ensures c.in-Ok.ensures.ok in
    let h = c.sections.invariant in
    let to = sections_to whole c.in-Ok.reader c.sections.reader h.sections first h.occur more in
    rw (p.1, p.2) (section_refused c.args.choices _ c.args.bytes.now c.sections.reader c.read_section.new.reader c.in-Ok-read_section.section to
    c.in-Ok-read_section.ensures.reads c.in_err-compact_section.ensures.refuses)

pub returns-clause-no_longer : goal.returns-clause-no_longer
returns-clause-no_longer c =
    let first = opened c.all.result c.args.bytes.now c.in-Ok.reader c.all.ensures c.in-Ok.ensures.ok in
    let end : rest c.sections.reader ≡ [] = search rules in
    let taken : c.append_bytes.new.out.items ≡ take c.in-Ok.reader.position c.args.bytes.now = search rules in
    let begun = preamble_taken c.args.bytes.now c.append_bytes.new.out.items c.in-Ok.reader first taken in
    module_no_longer c.args.choices c.args.bytes.now c.sections.out.items
    (module_done c.args.choices c.args.bytes.now c.in-Ok.reader c.sections.reader c.append_bytes.new.out.items c.sections.out.items first begun
    c.sections.invariant end)
