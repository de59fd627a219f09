use Rattle.std.proofs.Common.{◌≡◌, ℕ, ◌+◌, length, ap, arith, length-append}
use Rattle.wasm_operators.specs.below.Source.{Reader}
use Rattle.uses.proofs.Left.{adds_rest}
use Rattle.uses.proofs.rest.read_rest.Goals as goal

pub returns-clause-adds : goal.returns-clause-adds
returns-clause-adds c =
    let encoded = rw (c.features.ensures, c.get_binary_reader.ensures) at c.layouts.ensures.encoded in
    adds_rest c.read_all.result c.args.operators.now c.read_all.new.self c.args.list.now.items c.read_all.new.out.items encoded c.read_all.ensures.runs

pub returns-clause-few : goal.returns-clause-few
returns-clause-few c =
    let taken = c.read_all.ensures.runs.2 in
    let old = c.args.operators.now.reader in
    let moved : c.read_all.new.self.reader.position ≡ old.position + length taken.text = ap (λ (r : Reader). r.position) taken.takes.moved in
    let parts = ap length taken.takes.parts in
    omega (arith, c.read_all.ensures.depth, moved, parts, length-append {A = ℕ})
