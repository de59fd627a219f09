use Rattle.std.proofs.Common.{[], ◌∷◌, refl}
use Rattle.wasm_instr.proofs.laws.single_bytes.Goals as goal

pub returns-clause-ends : goal.returns-clause-ends
returns-clause-ends c = λ f. record { head = 0x0b ∷ []; after = []; parts = refl; code = refl; immediates = refl; enabled = tt }

pub returns-clause-turns : goal.returns-clause-turns
returns-clause-turns c = λ f. record { head = 0x05 ∷ []; after = []; parts = refl; code = refl; immediates = refl; enabled = tt }

pub returns-clause-traps : goal.returns-clause-traps
returns-clause-traps c = λ f. record { head = 0x00 ∷ []; after = []; parts = refl; code = refl; immediates = refl; enabled = tt }
