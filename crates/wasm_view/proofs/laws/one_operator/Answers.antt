use Rattle.wasm_view.proofs.Determined.{offsets, named, one_of}
use Rattle.wasm_view.proofs.laws.one_operator.Goals as goal

pub returns-clause-named : goal.returns-clause-named
returns-clause-named c = λ op other offset at same. (named op other offset at same, offsets op other offset at same)

pub returns-clause-whole : goal.returns-clause-whole
returns-clause-whole c = λ op other offset at w x same. (one_of op other offset at w x same, offsets op other offset at same)
