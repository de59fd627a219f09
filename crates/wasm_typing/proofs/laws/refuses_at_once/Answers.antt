use Rattle.wasm_typing.proofs.Beginnings.{begins_none, goes_on}
use Rattle.wasm_typing.proofs.laws.refuses_at_once.Goals as goal

pub returns : goal.returns
returns g c = record { refuses = λ C results roles ok e. begins_none C ok results roles e; goes_on = λ C op is results roles frames e. goes_on C op is results roles frames e }
