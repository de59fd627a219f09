use Rattle.std.specs.Int.{w64}
use Rattle.wasm_operators.specs.below.Number.{EncodesFixed}
use Rattle.wasm_operators.specs.below.Source.{EndsWithin}
use Rattle.uses.proofs.Codes.{reads_known, reads_some}
use Rattle.uses.proofs.numbers.peek_f64.Goals as goal

pub returns-clause-reads : goal.returns-clause-reads
returns-clause-reads c = λ bits text more parts known.
    let reads = rw c.clone.ensures at c.read_f64.ensures in
    reads_known (EncodesFixed w64) (EndsWithin 8) c.read_f64.result c.args.reader.now _ bits text more c.fixed_numbers.ensures.eight reads parts known

pub returns-clause-found : goal.returns-clause-found
returns-clause-found c =
    let reads = rw c.clone.ensures at c.read_f64.ensures in
    reads_some (EncodesFixed w64) (EndsWithin 8) c.read_f64.result c.args.reader.now _ reads
