use Rattle.std.proofs.Common.{◌≤◌, sym, subst, ap, ◌∙◌}
use Rattle.wasm_below.specs.Source.{reader_of, offset_of, end_of}
use Rattle.wasm_grammars.specs.Blocks.{contents}
use Rattle.wasm_grammars.proofs.BlockSteps.{block_read, block_missing}
use Rattle.wasm_grammars.proofs.Steps.{begins, placed, ends_as, stays}
use Rattle.wasm_grammars.proofs.bytes.read_contents.Goals as goal

pub returns-in_err-bytes : goal.returns-in_err-bytes
returns-in_err-bytes c =
    let copy = placed (begins (contents c.args.reader.now.features c.args.size) c.clone-ahead.ensures) in
    let within = subst (λ r. offset_of r ≤ end_of r) (sym c.clone-ahead.ensures) c.is_within.ensures in
    stays _ c.from_residual.ensures.1 (block_missing copy within c.in_err-bytes.ensures)

pub returns : goal.returns
returns c =
    let old = c.args.reader.now in
    let bytes = c.in_ok-bytes.bytes.now in
    let copy = block_read (placed (begins (contents old.features c.args.size) c.clone-ahead.ensures)) c.in_ok-bytes.bytes c.in_ok-bytes.ensures in
    ends_as copy (ap (λ o. reader_of old.features o bytes) (ap offset_of c.clone-ahead.ensures ∙ sym c.original_position.ensures) ∙ sym c.part-contents.ensures)
