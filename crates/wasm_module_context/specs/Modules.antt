-- What all payloads of a module add to a context.
-- WebAssembly Core Specification 3.0: Validation, Modules.
use Rattle.std.specs.Prelude.{◌≡◌, List, [], ◌∷◌, ◌⊎◌}
use Rattle.wasm_payloads.specs.declared.parser.ParserState.TheVariants as phase
use Rattle.wasm_payloads.specs.declared.payload.Payload.{Payload}
use Rattle.wasm_payloads.specs.Parsing.{Parsing, Gives, FailsAt}
use Rattle.wasm_context.specs.Components.{Components}
use Rattle.wasm_module_context.specs.declared.error.PayloadError.{PayloadError}
use Rattle.wasm_module_context.specs.declared.error.PayloadError.TheVariants as error
use Rattle.wasm_module_context.specs.Payloads.{AddsPayload, FailsPayload}

-- The next payloads are these, and each is added to the components that those before it gave.
abbrev pub AddsPayloads : List Payload → Parsing → Components → Parsing → Components → Type 0
AddsPayloads [] s c t d = (t ≡ s) × (d ≡ c)
AddsPayloads (p ∷ ps) s c t d = (u : Parsing) × (m : Components) × Gives s.state p s u × AddsPayload p c m × AddsPayloads ps u m t d

-- The payloads up to the end give these components.
abbrev pub AddsAll : Parsing → Components → Components → Type 0
AddsAll s c d = (ps : List Payload) × (t : Parsing) × AddsPayloads ps s c t d × (t.state ≡ phase.Ended)

-- The next payload can't be parsed.
abbrev pub FailsToParse : Parsing → PayloadError → Type 0
FailsToParse s (error.Decode e) = FailsAt s.state e s
FailsToParse s _ = ⊥

-- After some payloads, the next can't be parsed, or can't be added.
abbrev pub FailsAll : Parsing → Components → PayloadError → Type 0
FailsAll s c e = (ps : List Payload) × (t : Parsing) × (m : Components) × AddsPayloads ps s c t m ×
    (FailsToParse t e ⊎ ((p : Payload) × (u : Parsing) × Gives t.state p t u × FailsPayload p m e))
