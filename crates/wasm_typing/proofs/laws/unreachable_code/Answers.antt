use Rattle.wasm_typing.proofs.Principal.{any_below}
use Rattle.wasm_typing.proofs.laws.unreachable_code.Goals as goal

pub returns : goal.returns
returns g c = λ C set tree takes leaves below next xs ok e u d. any_below C ok set tree takes leaves below next xs e u d
