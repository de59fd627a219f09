-- The types of operators on locals, and the locals that they need and set.
-- WebAssembly Core Specification 3.0: Validation, Variable Instructions.
use Rattle.std.specs.Prelude.{ℕ, Bool, false, List, [], ◌∷◌, Option, Some, None}
use Rattle.wasm_instr.specs.declared.operator.Operator.{Operator}
use Rattle.wasm_instr.specs.declared.operator.Operator.TheVariants as operator
use Rattle.wasm_typing.specs.Types.{value_type}
use Rattle.wasm_typing.specs.Rules.{Rule, fixed}
use Rattle.wasm_check_control.specs.declared.context.LocalType.{LocalType}

abbrev pub local_get : LocalType → Rule
local_get l = fixed [] (value_type l.content_type ∷ [])

abbrev pub local_set : LocalType → Rule
local_set l = fixed (value_type l.content_type ∷ []) []

abbrev pub local_tee : LocalType → Rule
local_tee l = fixed (value_type l.content_type ∷ []) (value_type l.content_type ∷ [])

-- There is such a local, and it is set when the function starts.
abbrev pub starts_set : Option LocalType → Bool
starts_set None = false
starts_set (Some l) = l.is_set

-- The local that must be set before an operator.
abbrev pub needed_local : Operator → Option ℕ
needed_local (operator.LocalGet x) = Some x
needed_local _ = None

-- The locals that an operator sets.
abbrev pub locals_set : Operator → List ℕ
locals_set (operator.LocalSet x) = x ∷ []
locals_set (operator.LocalTee x) = x ∷ []
locals_set _ = []
