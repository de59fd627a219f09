-- What `wasm_validate_module` says of a module: an error as a C struct, and the function that it is in.
use Rattle.std.specs.Prelude.{◌≡◌, ℕ, length, ◌⊎◌, Option, Some, None}
use Rattle.wasm_below.specs.Source.{Reader}
use Rattle.wasm_c.specs.declared.refusal.WasmRefusal.{WasmRefusal}
use Rattle.wasm_c.specs.Refused.{misuse, no_refusal, refusal_of}
use Rattle.wasm_validation.specs.declared.fault.Fault.{Fault}
use Rattle.wasm_validation.specs.Valid.{IsValidModule}
use Rattle.wasm_validation.specs.Faults.{IsFirstFault}
use Rattle.wasm_validation_texts.specs.declared.kind.FaultKind.{FaultKind}
use Rattle.wasm_validation_texts.specs.declared.kind.FaultKind.TheVariants as kind
use Rattle.wasm_validation_texts.specs.Kinds.{kind_of, function_of}

-- The number for no function: the greatest of 64 bits.
abbrev pub no_function : ℕ
no_function = 18446744073709551615

-- The number of the function that an error is in.
abbrev pub function_number : Option ℕ → ℕ
function_number (Some x) = x
function_number None = no_function

-- The C struct of what is wrong with a module.
abbrev pub refusal_of_kind : FaultKind → WasmRefusal
refusal_of_kind kind.Memory = misuse 3 0
refusal_of_kind (kind.Malformed e) = refusal_of e
refusal_of_kind (kind.Invalid offset) = misuse 113 offset

-- The module is valid, and there is no error.
abbrev pub Accepts : WasmRefusal → Reader → ℕ → Type 0
Accepts r bytes function = (r ≡ no_refusal (length bytes.buffer)) × (function ≡ no_function) × IsValidModule bytes

-- The first payload that cannot be read or is not valid gives the error.
abbrev pub Rejects : WasmRefusal → Reader → ℕ → Type 0
Rejects r bytes function = (f : Fault) × IsFirstFault bytes f × (r ≡ refusal_of_kind (kind_of f)) × (function ≡ function_number (function_of f))

-- `wasm_validate_module` accepts a module or rejects it. The message is not determined.
abbrev pub ReturnsVerdict : WasmRefusal → Reader → ℕ → Type 0
ReturnsVerdict r bytes function = Accepts r bytes function ⊎ Rejects r bytes function
