use Rattle.wasm_typing.specs.Steps.{started}
use Rattle.wasm_typing.proofs.Shapes.{same_steps}
use Rattle.wasm_typing.proofs.laws.same_frames.Goals as goal

pub returns : goal.returns
returns g c = λ C results roles frames e. same_steps C (started results) roles frames e
