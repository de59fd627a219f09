use Rattle.uses.proofs.Singles.{peeked, none_peeked}
use Rattle.uses.proofs.single.operator_inside.Goals as goal

pub returns-clause-found : goal.returns-clause-found
returns-clause-found c = peeked c.args.kind c.args.reader.now c.peek_operator.result c.peek_operator.ensures

pub returns-clause-none : goal.returns-clause-none
returns-clause-none c = none_peeked c.args.kind c.args.reader.now c.peek_operator.result c.peek_operator.ensures
