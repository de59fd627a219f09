use Rattle.wasm_operators.specs.below.Number.{EncodesSize}
use Rattle.wasm_operators.specs.below.Source.{CountFault}
use Rattle.uses.proofs.Codes.{reads_known}
use Rattle.uses.proofs.numbers.peek_count.Goals as goal

pub returns : goal.returns
returns c = λ n text more parts known.
    let reads = rw c.clone.ensures at c.read_size.ensures in
    reads_known (EncodesSize c.args.limit) (CountFault c.args.list c.args.limit) c.read_size.result c.args.reader.now _ n text more (c.counts.ensures c.args.limit) reads parts known
