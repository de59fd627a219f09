use Rattle.wasm_encode_view.proofs.Sections.{body_put}
use Rattle.wasm_encode_view.proofs.section.put_body.Goals as goal

pub returns-in-Some : goal.returns-in-Some
returns-in-Some c =
    body_put c.args.size.now c.args.operators.now c.args.locals.now c.put_bytes-at.result c.in-Some.next c.put_bytes.result c.args.out.now c.put_bytes-at.new.out c.put_locals.new.out c.put_bytes.new.out
    c.put_bytes-at.ensures c.in-Some.ensures.puts c.put_bytes.ensures
