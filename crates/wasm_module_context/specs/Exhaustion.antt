-- Errors that do not say that a module is invalid.
use Rattle.std.specs.Prelude.{◌≡◌}
use Rattle.wasm_below.specs.declared.message.Message.TheVariants as message
use Rattle.wasm_subtypes.specs.declared.error.TypeError.TheVariants as type_error
use Rattle.wasm_check.specs.declared.error.CheckError.TheVariants as check
use Rattle.wasm_context.specs.declared.error.ContextError.{ContextError}
use Rattle.wasm_context.specs.declared.error.ContextError.TheVariants as context_error
use Rattle.wasm_module_context.specs.declared.error.PayloadError.{PayloadError}
use Rattle.wasm_module_context.specs.declared.error.PayloadError.TheVariants as error

-- Allocation failed, or the module has more types than the limit of 1,000,000.
abbrev pub IsExhaustedContext : ContextError → Type 0
IsExhaustedContext context_error.OutOfMemory = Unit {0}
IsExhaustedContext (context_error.Type type_error.OutOfMemory) = Unit {0}
IsExhaustedContext (context_error.Type type_error.TooManyTypes) = Unit {0}
IsExhaustedContext _ = ⊥

-- The same of an error of a payload. It does not say that the module is invalid.
abbrev pub IsExhausted : PayloadError → Type 0
IsExhausted (error.Decode e) = e.message ≡ message.OutOfMemory
IsExhausted (error.Context e offset) = IsExhaustedContext e
IsExhausted (error.Constant e) = e ≡ check.Memory
IsExhausted _ = ⊥
