use Rattle.std.proofs.Common.{◌∷◌, []}
use Rattle.wasm_encode_view.proofs.Sections.{section_put}
use Rattle.wasm_encode_view.proofs.section.put_section.Goals as goal

pub returns : goal.returns
returns c =
    section_put (c.args.id ∷ []) c.args.size.now c.args.count.now c.args.entries.now c.put_bytes-second.result c.put_bytes-third.result c.put_bytes-last.result c.put_bytes.result
    c.args.out.now c.put_bytes-second.new.out c.put_bytes-third.new.out c.put_bytes-last.new.out c.put_bytes.new.out
    c.put_bytes-second.ensures c.put_bytes-third.ensures c.put_bytes-last.ensures c.put_bytes.ensures
