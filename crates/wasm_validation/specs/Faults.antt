-- Why a module is not valid: the first error in the order of its bytes.
use Rattle.std.specs.Prelude.{◌≡◌, ◌≢◌, ℕ, ◌≤◌, List, ◌⊎◌, None}
use Rattle.wasm_below.specs.declared.message.Message.TheVariants as message
use Rattle.wasm_below.specs.declared.types.ValType.{ValType}
use Rattle.wasm_below.specs.Source.{Reader, offset_of}
use Rattle.wasm_payloads.specs.declared.payload.Payload.{Payload}
use Rattle.wasm_payloads.specs.declared.payload.Payload.TheVariants as payload
use Rattle.wasm_payloads.specs.Parsing.{Parsing, starts, Gives, FailsAt}
use Rattle.wasm_payloads.specs.Payloads.{PayloadsOccur}
use Rattle.wasm_check_control.specs.Environment.{Environment}
use Rattle.wasm_context.specs.Components.{Components}
use Rattle.wasm_context.specs.Environment.{environment_of}
use Rattle.wasm_module_context.specs.Exhaustion as sections
use Rattle.wasm_module_context.specs.Payloads.{FailsPayload}
use Rattle.wasm_check.specs.declared.error.CheckError.TheVariants as check
use Rattle.wasm_check.specs.Bodies.{ExplainsBody}
use Rattle.wasm_validation.specs.declared.fault.Fault.{Fault}
use Rattle.wasm_validation.specs.declared.fault.Fault.TheVariants as fault
use Rattle.wasm_validation.specs.Valid.{Stage, first, HasType, IsTypedFunction, AreValid}

-- Allocation failed, or the module has more types than the limit of 1,000,000.
abbrev pub IsExhausted : Fault → Type 0
IsExhausted (fault.Parse e) = e.message ≡ message.OutOfMemory
IsExhausted (fault.Section e) = sections.IsExhausted e
IsExhausted (fault.Body f) = f.error ≡ check.Memory
IsExhausted _ = ⊥

-- There is no function with this index.
abbrev pub HasNoFunction : Environment → ℕ → Type 0
HasNoFunction E x = (E.functions x ≡ None) ⊎ (4294967296 ≤ x)

-- Why a body after this stage is in error.
abbrev pub RefusesBody : Reader → Stage → Fault → Type 0
RefusesBody body s (fault.NoFunction offset) = (offset ≡ offset_of body) × HasNoFunction (environment_of s.context) s.next
RefusesBody body s (fault.Body f) = (f.context ≡ s.context) × (f.function ≡ s.next) × (f.body ≡ body) ×
    (f.error ≢ check.Memory → IsTypedFunction (environment_of s.context) s.next body → ⊥) ×
    ((params results : List ValType) × HasType (environment_of s.context) s.next params results × ExplainsBody (environment_of s.context) params results body f.error)
RefusesBody body s _ = ⊥

-- The section has an unknown id.
abbrev pub RefusesSection : ℕ → Reader → Fault → Type 0
RefusesSection id contents (fault.UnknownSection n offset) = (n ≡ id) × (offset ≡ offset_of contents)
RefusesSection id contents _ = ⊥

-- A payload cannot be added to a context.
abbrev pub FailsToAdd : Payload → Components → Fault → Type 0
FailsToAdd p c (fault.Section e) = FailsPayload p c e
FailsToAdd p c _ = ⊥

-- Why a payload after this stage is in error.
abbrev pub Refuses : Payload → Stage → Fault → Type 0
Refuses (payload.CodeSectionEntry body) s f = RefusesBody body s f
Refuses (payload.UnknownSection id contents) s f = RefusesSection id contents f
Refuses p s f = FailsToAdd p s.context f

-- The next payload can't be read.
abbrev pub FailsToParse : Parsing → Fault → Type 0
FailsToParse p (fault.Parse e) = FailsAt p.state e p
FailsToParse p _ = ⊥

-- After some valid payloads, the next can't be read, or is not valid.
abbrev pub StopsLater : Parsing → Stage → Fault → Type 0
StopsLater p s f = (xs : List Payload) × (q : Parsing) × (t : Stage) × PayloadsOccur xs p q × AreValid xs s t ×
    (FailsToParse q f ⊎ ((x : Payload) × (next : Parsing) × Gives q.state x q next × Refuses x t f))

-- The error of the first payload of the module that can't be read or is not valid.
abbrev pub IsFirstFault : Reader → Fault → Type 0
IsFirstFault r f = StopsLater (starts r) first f
