-- Constant expressions that leave a value of a type.
-- WebAssembly Core Specification 3.0: Validation, Instructions, Constant Expressions.
use Rattle.std.specs.Prelude.{◌≢◌, [], ◌∷◌, ◌⊎◌}
use Rattle.wasm_below.specs.declared.types.ValType.{ValType}
use Rattle.wasm_below.specs.Source.{Reader, source_of}
use Rattle.wasm_typing.specs.Types.{value_type}
use Rattle.wasm_check_operators.specs.Language.{rules_of}
use Rattle.wasm_check.specs.declared.error.CheckError.TheVariants as check
use Rattle.wasm_check.specs.Constants.{constant_in, is_constant, IsTypedOf, ExplainsOf}
use Rattle.wasm_context.specs.Components.{Components}
use Rattle.wasm_context.specs.Environment.{environment_of}
use Rattle.wasm_module_context.specs.declared.error.PayloadError.{PayloadError}
use Rattle.wasm_module_context.specs.declared.error.PayloadError.TheVariants as error
use Rattle.wasm_module_context.specs.References.{DeclaresReferences, FailsReferences}

-- In a context, the expression is constant and leaves a value of this type.
abbrev pub IsConstant : Components → ValType → Reader → Type 0
IsConstant c t r = IsTypedOf (is_constant (constant_in (environment_of c) t)) (rules_of (constant_in (environment_of c) t)) (value_type t ∷ []) (source_of r)

-- Why it isn't: the error, unless allocation failed.
abbrev pub ExplainsConstant : Components → ValType → Reader → PayloadError → Type 0
ExplainsConstant c t r (error.Constant e) = (e ≢ check.Memory → IsConstant c t r → ⊥) × ExplainsOf (is_constant (constant_in (environment_of c) t)) (rules_of (constant_in (environment_of c) t)) (value_type t ∷ []) r e
ExplainsConstant c t r _ = ⊥

-- The functions to which the expression refers are declared, and the expression has the type in the
-- context with them.
abbrev pub AddsConstant : ValType → Reader → Components → Components → Type 0
AddsConstant t r c d = DeclaresReferences r c d × IsConstant d t r

abbrev pub FailsConstant : ValType → Reader → Components → PayloadError → Type 0
FailsConstant t r c e = FailsReferences r c e ⊎ ((d : Components) × DeclaresReferences r c d × ExplainsConstant d t r e)
