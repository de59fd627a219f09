use Rattle.std.proofs.Common.{◌≡◌, List, [], ◌∷◌, ◌++◌, refl, ap}
use Rattle.wasm_instr.specs.declared.operator.Operator.{Operator}
use Rattle.wasm_instr.specs.Roles.{role_of, roles_of}

pub roles_joined : (first second : List Operator) → roles_of (first ++ second) ≡ roles_of first ++ roles_of second
roles_joined [] second = refl
roles_joined (op ∷ first) second = ap (λ roles. role_of op ∷ roles) (roles_joined first second)
