use Rattle.wasm_rows.proofs.Sections.{section_written, heading_stopped}
use Rattle.wasm_rows.proofs.contents.write_section.Goals as goal

pub returns-in-Err : goal.returns-in-Err
returns-in-Err g c =
    heading_stopped c.args.section.now c.id.result c.in-Err.fault (g.W.Write.contents c.args.writer.now) (g.W.Write.contents c.write_section_heading.new.writer) c.id.ensures
    c.in-Err.ensures

pub returns : goal.returns
returns g c =
    section_written c.args.section.now c.id.result c.original_position-offset.result c.contents-contents.result c.remaining_buffer-bytes.result.now c.write_rows.result
    (g.W.Write.contents c.args.writer.now) (g.W.Write.contents c.write_section_heading.new.writer) (g.W.Write.contents c.write_rows.new.writer) c.id.ensures
    c.contents-contents.ensures c.original_position-offset.ensures c.remaining_buffer-bytes.ensures c.in_default.ensures c.write_rows.ensures
