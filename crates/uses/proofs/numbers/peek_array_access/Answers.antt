use Rattle.uses.proofs.Immediates.{access_known}
use Rattle.uses.proofs.numbers.peek_array_access.Goals as goal

pub returns : goal.returns
returns c = λ immediates text more parts kinds known.
    let first = rw c.clone-ahead.ensures at c.in_ok-ordering.ensures in
    let law = rw c.features.ensures at c.immediates.ensures in
    access_known c.args.reader.now _ _ c.in_ok-ordering.ordering c.in_ok-array_type.array_type immediates text more law first c.in_ok-array_type.ensures parts kinds known
