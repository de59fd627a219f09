use Rattle.std.proofs.Common.{◌≡◌, ◌+◌, length, arith}
use Rattle.uses.proofs.Codes.{takes_known}
use Rattle.uses.proofs.numbers.value_size.Goals as goal

pub returns-clause-size : goal.returns-clause-size
returns-clause-size g c = λ value text more parts known.
    let old = c.args.reader.now in
    let reads = rw c.clone-ahead.ensures at c.in_ok-_value.ensures.reads in
    let moved : c.read.new.self.position ≡ old.position + length text =
    takes_known g.T.FromReader.same (g.T.FromReader.encodes old.features) old c.read.new.self value _ reads.0 text more (c.is_prefix_code.ensures old.features) reads.1 reads.2 parts known in
    omega (arith, moved, c.current_position.ensures, c.current_position-2.ensures)
