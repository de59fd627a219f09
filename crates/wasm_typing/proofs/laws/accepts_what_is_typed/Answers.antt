use Rattle.wasm_typing.proofs.Shapes.{accepted_tree, tree_accepted}
use Rattle.wasm_typing.proofs.laws.accepts_what_is_typed.Goals as goal

pub returns : goal.returns
returns g c = λ C results roles ok. (accepted_tree C ok results roles, λ (tree, same, d). tree_accepted C ok results roles tree same d)
