use Rattle.std.proofs.Common.{◌≡◌, ◌-◌, length, take, sym, ap, ◌∙◌, arith}
use Rattle.wasm_below.specs.Source.{Reader, rest, offset_of}
use Rattle.wasm_grammars.specs.Grammar.{thing}
use Rattle.wasm_grammars.proofs.Steps.{begins, then, placed, with_bytes, bytes_fail, thing_fails, fails_first, ends_as, stays}
use Rattle.wasm_names.specs.Names.{skipped_names, unread_names}
use Rattle.wasm_names.proofs.Skipping.{front, opened_at}
use Rattle.wasm_names.proofs.indirect.read_unread.Goals as goal

pub returns-in_err-names : goal.returns-in_err-names
returns-in_err-names c =
    let map = placed (begins (unread_names c.args.reader.now.features) c.clone-after.ensures) in
    stays _ c.from_residual.ensures.1 (fails_first map (bytes_fail (thing_fails skipped_names _ _ _ map.later c.in_err-names.ensures.reads.1)))

pub returns : goal.returns
returns c =
    let old = c.args.reader.now in
    let r = c.in_ok-names.ensures.reads in
    let map = then (placed (begins (unread_names old.features) c.clone-after.ensures)) (with_bytes (thing skipped_names) c.in_ok-names.names r) in
    let position = ap (λ (r : Reader). r.position) r.2.moved in
    let started = ap (λ (r : Reader). r.position) c.clone-after.ensures in
    let size : c.current_position.result - c.current_position-2.result ≡ length r.0 =
    omega (arith, position, started, c.current_position.ensures, c.current_position-2.ensures) in
    let same = ap offset_of c.clone-after.ensures ∙ sym c.original_position-start.ensures in
    let here = c.remaining_buffer.ensures ∙ ap rest (sym c.clone-after.ensures) in
    let bytes = ap (take (c.current_position.result - c.current_position-2.result)) here ∙ front r.2 size in
    ends_as map (opened_at c.in_ok-names.names.0 c.in_ok-names.names.1 same bytes c.part-unread.ensures c.set_position.ensures c.of_items.ensures)
