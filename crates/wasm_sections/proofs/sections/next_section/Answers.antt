use Rattle.std.proofs.Common.{rules}
use Rattle.wasm_below.specs.Source.{rest}
use Rattle.wasm_sections.specs.Module.{BeginsModule}
use Rattle.wasm_sections.proofs.Framing.{section_reads}
use Rattle.wasm_sections.proofs.sections.next_section.Goals as goal

pub returns : goal.returns
returns c =
    let free : BeginsModule (rest c.args.reader.now) → ⊥ = search rules in
    section_reads c.read_section.result c.args.reader.now c.read_section.new.reader free c.read_section.ensures.reads
