-- Payloads added one by one.
use Rattle.std.proofs.Common.{[], ◌∷◌, inl, inr, refl}
use Rattle.wasm_below.specs.declared.error.Error.{Error}
use Rattle.wasm_payloads.specs.declared.payload.Payload.{Payload}
use Rattle.wasm_payloads.specs.Parsing.{Parsing, Gives, FailsAt}
use Rattle.wasm_context.specs.Components.{Components}
use Rattle.wasm_module_context.specs.declared.error.PayloadError.{PayloadError}
use Rattle.wasm_module_context.specs.declared.error.PayloadError.TheVariants as error
use Rattle.wasm_module_context.specs.Payloads.{AddsPayload, FailsPayload}
use Rattle.wasm_module_context.specs.Modules.{AddsAll, FailsAll}

pub adds_more : (s u : Parsing) (c m d : Components) (p : Payload) → Gives s.state p s u → AddsPayload p c m → AddsAll u m d → AddsAll s c d
adds_more s u c m d p gives added (ps, t, all, ended) = (p ∷ ps, t, (u, m, gives, added, all), ended)

pub fails_later : (s u : Parsing) (c m : Components) (e : PayloadError) (p : Payload) → Gives s.state p s u → AddsPayload p c m → FailsAll u m e → FailsAll s c e
fails_later s u c m e p gives added (ps, t, k, all, why) = (p ∷ ps, t, k, (u, m, gives, added, all), why)

pub fails_here : (s u : Parsing) (c : Components) (e : PayloadError) (p : Payload) → Gives s.state p s u → FailsPayload p c e → FailsAll s c e
fails_here s u c e p gives fails = ([], s, c, (refl, refl), inr (p, u, gives, fails))

pub fails_parsing : (s : Parsing) (c : Components) (e : Error) → FailsAt s.state e s → FailsAll s c (error.Decode e)
fails_parsing s c e fails = ([], s, c, (refl, refl), inl fails)
