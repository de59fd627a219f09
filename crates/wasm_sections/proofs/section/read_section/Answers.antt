use Rattle.std.proofs.Common.{subst}
use Rattle.wasm_grammars.specs.Blocks.{contents}
use Rattle.wasm_grammars.specs.Grammar.{HasReadBy}
use Rattle.wasm_grammars.specs.Reading.{Fails}
use Rattle.wasm_below.specs.Source.{offset_of}
use Rattle.wasm_grammars.proofs.Steps.{begins, then, fails_in, ends, stays}
use Rattle.wasm_sections.specs.Section.{section}
use Rattle.wasm_sections.proofs.Within.{contents_end}
use Rattle.wasm_sections.proofs.section.read_section.Goals as goal

pub returns-in_err-header-clause-reads : goal.returns-in_err-header-clause-reads
returns-in_err-header-clause-reads c =
    stays _ c.from_residual.ensures.1 (fails_in (begins (section c.args.reader.now.features) c.clone-ahead.ensures) c.in_err-header.ensures.reads.1)

pub returns-in_err-contents-clause-reads : goal.returns-in_err-contents-clause-reads
returns-in_err-contents-clause-reads c =
    let header = then (begins (section c.args.reader.now.features) c.clone-ahead.ensures) c.in_ok-header.ensures.reads in
    let mid = c.read_header.new.reader in
    let error = subst (λ f. Fails (contents f c.in_ok-header.header.size) (offset_of mid) c.in_err-contents.field-0.0 mid) header.features c.in_err-contents.ensures.1 in
    stays _ c.from_residual-in_err-contents.ensures.1 (fails_in header error)

pub returns-clause-reads : goal.returns-clause-reads
returns-clause-reads c =
    let header = then (begins (section c.args.reader.now.features) c.clone-ahead.ensures) c.in_ok-header.ensures.reads in
    ends (then header (subst (λ f. HasReadBy (contents f c.in_ok-header.header.size) c.in_ok-contents.contents c.read_header.new.reader c.read_contents.new.reader)
    header.features c.in_ok-contents.ensures))

pub returns-clause-placed : goal.returns-clause-placed
returns-clause-placed c = contents_end c.in_ok-contents.ensures
