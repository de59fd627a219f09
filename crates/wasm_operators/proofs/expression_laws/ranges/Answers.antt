use Rattle.wasm_operators.proofs.Ranges.{next_range, last_range, last_read}
use Rattle.wasm_operators.proofs.expression_laws.ranges.Goals as goal

pub returns-clause-next : goal.returns-clause-next
returns-clause-next c = λ offset before after p q bytes l. next_range c.args.features offset before after p q bytes l

pub returns-clause-last : goal.returns-clause-last
returns-clause-last c = λ offset before p bytes l. last_range c.args.features offset before p bytes l

pub returns-clause-read : goal.returns-clause-read
returns-clause-read c = λ old new before p text takes l. last_read old new before p text takes l
