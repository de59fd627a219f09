-- What is wrong with a module that has a fault, and the function that the fault is in.
use Rattle.std.specs.Prelude.{ℕ, Option, Some, None}
use Rattle.wasm_below.specs.declared.error.Error.{Error}
use Rattle.wasm_below.specs.declared.message.Message.{Message}
use Rattle.wasm_below.specs.declared.message.Message.TheVariants as message
use Rattle.wasm_check.specs.declared.error.CheckError.{CheckError}
use Rattle.wasm_check.specs.declared.error.CheckError.TheVariants as check
use Rattle.wasm_context.specs.declared.error.ContextError.{ContextError}
use Rattle.wasm_context.specs.declared.error.ContextError.TheVariants as context_error
use Rattle.wasm_module_context.specs.declared.error.PayloadError.{PayloadError}
use Rattle.wasm_module_context.specs.declared.error.PayloadError.TheVariants as payload_error
use Rattle.wasm_subtypes.specs.declared.error.TypeError.TheVariants as type_error
use Rattle.wasm_validation.specs.declared.fault.Fault.{Fault}
use Rattle.wasm_validation.specs.declared.fault.Fault.TheVariants as fault
use Rattle.wasm_validation_texts.specs.declared.kind.FaultKind.{FaultKind}
use Rattle.wasm_validation_texts.specs.declared.kind.FaultKind.TheVariants as kind

-- The error of a reader, unless allocation failed.
abbrev pub kind_by_message : Message → Error → FaultKind
kind_by_message message.OutOfMemory e = kind.Memory
kind_by_message _ e = kind.Malformed e

abbrev pub kind_of_read : Error → FaultKind
kind_of_read e = kind_by_message e.message e

-- The error of a function body or of a constant expression.
abbrev pub kind_of_checked : CheckError → FaultKind
kind_of_checked check.Memory = kind.Memory
kind_of_checked (check.Decode e) = kind_of_read e
kind_of_checked (check.Untyped offset mismatch) = kind.Invalid offset
kind_of_checked (check.InvalidLocal offset ty) = kind.Invalid offset
kind_of_checked (check.TooManyLocals offset) = kind.Invalid offset
kind_of_checked (check.NotConstant offset) = kind.Invalid offset

-- The error of an item at this offset that cannot be added to a context.
abbrev pub kind_of_context : ContextError → ℕ → FaultKind
kind_of_context context_error.OutOfMemory offset = kind.Memory
kind_of_context (context_error.Type type_error.OutOfMemory) offset = kind.Memory
kind_of_context _ offset = kind.Invalid offset

-- The error of a payload.
abbrev pub kind_of_added : PayloadError → FaultKind
kind_of_added (payload_error.Decode e) = kind_of_read e
kind_of_added (payload_error.Constant e) = kind_of_checked e
kind_of_added (payload_error.NoInitialValue offset) = kind.Invalid offset
kind_of_added (payload_error.ElementType offset found expected) = kind.Invalid offset
kind_of_added (payload_error.UnknownSection id offset) = kind.Invalid offset
kind_of_added (payload_error.Context e offset) = kind_of_context e offset

-- What is wrong with the module.
abbrev pub kind_of : Fault → FaultKind
kind_of (fault.Parse e) = kind_of_read e
kind_of (fault.Section e) = kind_of_added e
kind_of (fault.UnknownSection id offset) = kind.Invalid offset
kind_of (fault.NoFunction offset) = kind.Invalid offset
kind_of (fault.Body f) = kind_of_checked f.error

-- The index of the function whose body is at fault, if one is.
abbrev pub function_of : Fault → Option ℕ
function_of (fault.Body f) = Some f.function
function_of _ = None
