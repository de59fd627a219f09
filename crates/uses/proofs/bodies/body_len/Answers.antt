use Rattle.std.proofs.Common.{[], ◌++◌, length, ap, ◌∙◌, arith}
use Rattle.wasm_operators.specs.below.Source.{reader_of}
use Rattle.uses.specs.Input.{input}
use Rattle.uses.proofs.bodies.body_len.Goals as goal

pub returns : goal.returns
returns c = λ declarations placed is.
    let opens = rw (c.new-body.ensures ∙ c.new_features.ensures) at c.in_ok-get_operators_reader.ensures.opens in
    let along = (c.in_ok-read_all.ensures.rest [] c.in_ok-get_operators_reader.ensures.read_so_far).tree in
    let list = along.1 ∙ ap (λ first. first ++ along.0) c.new-found.ensures.items in
    let whole = c.opened_bodies.ensures.whole (reader_of c.args.features 0 c.args.bytes.now) _ _ along.0 opens along.2 in
    let same = c.one_body.ensures (input c.args.features c.args.bytes.now) whole.0 declarations along.0 placed whole.1 is in
    omega (arith, c.len.ensures, c.read_all.new.out.ok.0, ap length (list ∙ same.1))
