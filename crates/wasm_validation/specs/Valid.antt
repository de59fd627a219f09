-- Modules that are valid. WebAssembly Core Specification 3.0: Validation, Modules; Binary Format, Modules.
use Rattle.std.specs.Prelude.{◌≡◌, ℕ, suc, ◌<◌, List, [], ◌∷◌, length, Some}
use Rattle.wasm_below.specs.declared.types.ValType.{ValType}
use Rattle.wasm_below.specs.Source.{Reader, source_of}
use Rattle.wasm_payloads.specs.declared.parser.ParserState.TheVariants as phase
use Rattle.wasm_payloads.specs.declared.payload.Payload.{Payload}
use Rattle.wasm_payloads.specs.declared.payload.Payload.TheVariants as payload
use Rattle.wasm_payloads.specs.Parsing.{Parsing}
use Rattle.wasm_payloads.specs.Payloads.{PayloadsOccur, IsModuleOf}
use Rattle.wasm_check_control.specs.Environment.{Environment, stack_of}
use Rattle.wasm_context.specs.Components.{Components, of_types}
use Rattle.wasm_context.specs.Environment.{environment_of}
use Rattle.wasm_module_context.specs.Payloads.{AddsPayload}
use Rattle.wasm_check.specs.Bodies.{IsTypedBody}

-- The context that the payloads so far give, and the index of the function whose body is next.
pub record Stage : Type 0 where
  pub context : Components
  pub next : ℕ

-- Before the first payload.
abbrev pub first : Stage
first = record { context = of_types []; next = 0 }

-- The function with this index has these parameters and results. An index is below 4294967296.
abbrev pub HasType : Environment → ℕ → List ValType → List ValType → Type 0
HasType E x params results = (x < 4294967296) × (E.functions x ≡ Some (record { takes = stack_of params; leaves = stack_of results }))

-- The body is typed with the type of the function with this index. Modules, Functions.
abbrev pub IsTypedFunction : Environment → ℕ → Reader → Type 0
IsTypedFunction E x body = (params results : List ValType) × HasType E x params results × IsTypedBody E params results (source_of body)

-- The payload is valid in the context of the payloads before it, and gives the next context. A function
-- section starts with the functions that are not imported. No section has an unknown id.
abbrev pub IsValid : Payload → Stage → Stage → Type 0
IsValid (payload.CodeSectionEntry body) s t = IsTypedFunction (environment_of s.context) s.next body × (t ≡ record { context = s.context; next = suc s.next })
IsValid (payload.FunctionSection items) s t = AddsPayload (payload.FunctionSection items) s.context t.context × (t.next ≡ length s.context.functions)
IsValid (payload.UnknownSection id contents) s t = ⊥
IsValid p s t = AddsPayload p s.context t.context × (t.next ≡ s.next)

-- The payloads are valid, each in the context of those before it.
abbrev pub AreValid : List Payload → Stage → Stage → Type 0
AreValid [] s t = t ≡ s
AreValid (p ∷ ps) s t = (m : Stage) × IsValid p s m × AreValid ps m t

-- The payloads from this parser up to the end are valid.
abbrev pub IsValidFrom : Parsing → Stage → Type 0
IsValidFrom p s = (xs : List Payload) × (q : Parsing) × (t : Stage) × PayloadsOccur xs p q × AreValid xs s t × (q.state ≡ phase.Ended)

-- The bytes are a module: its preamble and sections in the standard's order, which are valid, and whose
-- function bodies are typed. Limits are part of the relations of sections, and of typed bodies.
pub record IsValidModule (r : Reader) : Type 0 where
  pub payloads : List Payload
  pub last : Stage
  pub encodes : IsModuleOf payloads r
  pub valid : AreValid payloads first last
