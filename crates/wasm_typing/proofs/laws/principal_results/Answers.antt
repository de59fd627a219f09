use Rattle.wasm_typing.proofs.Principal.{typed_runs_on, leaves_are_held, held_is_left}
use Rattle.wasm_typing.proofs.laws.principal_results.Goals as goal

pub returns : goal.returns
returns g c = record { runs = λ C set tree takes leaves xs ok d. typed_runs_on C ok set tree takes leaves xs d; results = λ C set tree takes leaves next ok e. (λ (xs, d). leaves_are_held C ok set tree takes leaves next xs e d, λ h. held_is_left C ok set tree takes leaves next e h) }
