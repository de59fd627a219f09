-- The functions to which constant expressions refer.
-- WebAssembly Core Specification 3.0: Validation, Conventions, Contexts (REFS); Validation, Instructions,
-- ref.func.
use Rattle.std.specs.Prelude.{◌≡◌, ◌≢◌, ℕ, [], ◌∷◌, Some, None, ◌⊎◌}
use Rattle.wasm_below.specs.declared.message.Message.TheVariants as message
use Rattle.wasm_below.specs.Source.{Reader, source_of}
use Rattle.wasm_externals.specs.declared.external.ExternalKind.TheVariants as kind
use Rattle.wasm_instr.specs.declared.operator.Operator.{Operator}
use Rattle.wasm_instr.specs.declared.operator.Operator.TheVariants as operator
use Rattle.wasm_operators.specs.Expression.{Placed, EncodesExpression}
use Rattle.wasm_context.specs.declared.error.ContextError.{ContextError}
use Rattle.wasm_context.specs.Components.{Components, with_declared}
use Rattle.wasm_context.specs.Faults.{external_fault}
use Rattle.wasm_module_context.specs.declared.error.PayloadError.{PayloadError}
use Rattle.wasm_module_context.specs.declared.error.PayloadError.TheVariants as error

abbrev pub IsReference : Operator → ℕ → Type 0
IsReference op x = op ≡ operator.RefFunc x

-- An operator `ref.func` declares the function to which it refers; another adds nothing.
abbrev pub DeclaresOne : Operator → Components → Components → Type 0
DeclaresOne op c d =
    ((x : ℕ) × IsReference op x × (external_fault c kind.Func x ≡ None) × (d ≡ with_declared c x)) ⊎
    (((x : ℕ) → IsReference op x → ⊥) × (d ≡ c))

-- The operator, at this offset, refers to no function.
abbrev pub FailsOne : Operator → ℕ → Components → PayloadError → Type 0
FailsOne op at c e = (x : ℕ) × (f : ContextError) × IsReference op x × (external_fault c kind.Func x ≡ Some f) × (e ≡ error.Context f at)

-- The functions to which the operators refer are declared.
abbrev pub Declares : Placed → Components → Components → Type 0
Declares [] c d = d ≡ c
Declares (p ∷ ps) c d = (m : Components) × DeclaresOne p.0 c m × Declares ps m d

-- The error of the first operator that refers to no function.
abbrev pub FailsToDeclare : Placed → Components → PayloadError → Type 0
FailsToDeclare [] c e = ⊥
FailsToDeclare (p ∷ ps) c e = FailsOne p.0 p.1 c e ⊎ ((m : Components) × DeclaresOne p.0 c m × FailsToDeclare ps m e)

-- The functions to which a constant expression refers are declared.
abbrev pub DeclaresReferences : Reader → Components → Components → Type 0
DeclaresReferences r c d = (placed : Placed) × EncodesExpression (source_of r) placed × Declares placed c d

-- Allocation failed; else the bytes encode no expression.
abbrev pub IsReadError : Reader → PayloadError → Type 0
IsReadError r (error.Decode e) = e.message ≢ message.OutOfMemory → (placed : Placed) → EncodesExpression (source_of r) placed → ⊥
IsReadError r _ = ⊥

-- The operators can't be read, or one of them refers to no function.
abbrev pub FailsReferences : Reader → Components → PayloadError → Type 0
FailsReferences r c e = IsReadError r e ⊎ ((placed : Placed) × EncodesExpression (source_of r) placed × FailsToDeclare placed c e)
