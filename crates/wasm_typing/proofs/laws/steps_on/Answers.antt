use Rattle.wasm_typing.proofs.Beginnings.{steps-append}
use Rattle.wasm_typing.proofs.laws.steps_on.Goals as goal

pub returns : goal.returns
returns g c = λ C frames first second. steps-append C frames first second
