use Rattle.std.proofs.Common.{◌≡◌, ◌+◌, length, sym, ap, ◌∙◌, arith}
use Rattle.wasm_operators.specs.below.Source.{Reader, rest}
use Rattle.uses.proofs.single_steps.operator_size.Goals as goal

pub returns : goal.returns
returns c = λ op text more parts encodes.
    let taken = c.in_ok-_operator.ensures in
    let old = c.args.operators.now.reader in
    let law = rw (c.features.ensures, c.get_binary_reader-before.ensures) at c.operators.ensures in
    let same = law _ op taken.text text (rest c.read.new.self.reader) more taken.encodes.0 encodes (sym taken.takes.parts ∙ parts) in
    let moved : c.read.new.self.reader.position ≡ old.position + length taken.text = ap (λ (r : Reader). r.position) taken.takes.moved in
    let start = c.current_position-2.ensures ∙ ap (λ (r : Reader). r.position) c.get_binary_reader-before.ensures in
    let end = c.current_position.ensures ∙ ap (λ (r : Reader). r.position) c.get_binary_reader.ensures in
    omega (arith, moved, start, end, ap length same.1)
