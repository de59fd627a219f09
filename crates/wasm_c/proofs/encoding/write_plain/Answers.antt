use Rattle.std.proofs.Common.{sym, subst, ◌∙◌}
use Rattle.wasm_c.specs.Encodings.{WritesBytes}
use Rattle.wasm_c.proofs.Encoded.{plain_placed, plain_refused}
use Rattle.wasm_c.proofs.encoding.write_plain.Goals as goal

pub reads_back-requires-clause-bytes : goal.reads_back-requires-clause-bytes
reads_back-requires-clause-bytes c = subst (WritesBytes c.args.view.now) (sym c.as_slice.ensures) c.write_view-bytes.ensures

pub returns-then-reads_back : goal.returns-then-reads_back
returns-then-reads_back c =
    plain_placed c.reads_back.result c.args.features c.args.view.now c.place_bytes.result _ _ _ _ _ _ c.if-reads_back.true c.reads_back.ensures
    (c.as_slice.ensures ∙ sym c.as_slice-then-reads_back.ensures) c.place_bytes.ensures

pub returns : goal.returns
returns c = plain_refused c.reads_back.result c.args.features c.args.view.now c.misuse.result _ _ _ c.if-reads_back.false c.reads_back.ensures c.misuse.ensures
