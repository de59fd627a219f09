use Rattle.std.proofs.Common.{◌+◌, refl, sym, ap}
use Rattle.uses.proofs.Ranges.{range_last, range_next}
use Rattle.uses.proofs.Splits.{splits_at, splits_into}
use Rattle.uses.proofs.places.range_of.Goals as goal

pub returns-then-index-list : goal.returns-then-index-list
returns-then-index-list c = λ offset bytes laid end_is.
    let here = c.index-list-index in
    let next = c.index-list-index-then-index-list in
    let split = splits_into c.args.list.now c.args.index (c.args.index + 1) here.result next.result refl c.if-index-list.true here.is next.is in
    range_next c.args.features c.args.list.now here.result next.result c.args.index _ _ offset bytes c.ranges-2.ensures.next split
    (ap (λ p. p.1) (sym here.is)) (ap (λ p. p.1) (sym next.is)) laid

pub returns : goal.returns
returns c = λ offset bytes laid end_is.
    let here = c.index-list-index in
    let split = splits_at c.args.list.now c.args.index here.result c.requires here.is in
    range_last c.args.features c.args.list.now here.result c.args.index _ c.args.end offset bytes c.ranges-2.ensures.last split
    (ap (λ p. p.1) (sym here.is)) c.if-index-list.false laid end_is
