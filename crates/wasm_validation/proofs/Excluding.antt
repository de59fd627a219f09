-- A valid module has no error.
use Rattle.std.proofs.Common.{◌≡◌, ◌⊎◌, List, [], ◌∷◌, inl, inr, sym, subst, ◌∙◌, arith}
use Rattle.wasm_below.specs.Source.{Reader}
use Rattle.wasm_payloads.specs.declared.parser.ParserState.TheVariants as phase
use Rattle.wasm_payloads.specs.declared.payload.Payload.{Payload}
use Rattle.wasm_payloads.specs.declared.payload.Payload.TheVariants as payload
use Rattle.wasm_payloads.specs.Parsing.{Parsing, starts, Gives, FailsAt}
use Rattle.wasm_payloads.specs.Payloads.{PayloadsOccur}
use Rattle.wasm_payloads.proofs.Determined.{next_payload, none_after, payload_or_error}
use Rattle.wasm_context.specs.Components.{Components}
use Rattle.wasm_context.specs.Environment.{environment_of}
use Rattle.wasm_module_context.specs.Payloads.{AddsPayload}
use Rattle.wasm_module_context.proofs.OnePayload.{one_after, added_or_fails}
use Rattle.wasm_validation.specs.declared.fault.Fault.{Fault}
use Rattle.wasm_validation.specs.declared.fault.Fault.TheVariants as fault
use Rattle.wasm_validation.specs.Valid.{Stage, first, IsTypedFunction, IsValid, AreValid, IsValidModule}
use Rattle.wasm_validation.specs.Faults.{IsExhausted, RefusesBody, FailsToAdd, Refuses, FailsToParse, IsFirstFault}

same_stage : (t u : Stage) → t.context ≡ u.context → t.next ≡ u.next → t ≡ u
same_stage t u context next =
    let whole : record { context = t.context; next = t.next } ≡ record { context = u.context; next = u.next } = cc (context, next) in
    whole

one_stage : (p : Payload) (s t u : Stage) → IsValid p s t → IsValid p s u → t ≡ u
one_stage (payload.CodeSectionEntry body) s t u (_, a) (_, b) = a ∙ sym b
one_stage (payload.UnknownSection n x) s t u a b = absurd a
one_stage p s t u (a, n) (b, m) = same_stage t u (one_after p s.context t.context u.context a b) (n ∙ sym m)

added_or_refused : (p : Payload) (c d : Components) (f : Fault) → (IsExhausted f → ⊥) → AddsPayload p c d → FailsToAdd p c f → ⊥
added_or_refused p c d (fault.Section e) known a f = added_or_fails p c d e known a f
added_or_refused p c d e known a f = absurd f

body_or_refused : (body : Reader) (s : Stage) (f : Fault) → (IsExhausted f → ⊥) → IsTypedFunction (environment_of s.context) s.next body → RefusesBody body s f → ⊥
body_or_refused body s (fault.NoFunction offset) known (params, results, (low, is), _) (_, inl none) = cc (is, none)
body_or_refused body s (fault.NoFunction offset) known (params, results, (low, is), _) (_, inr high) = omega (arith, low, high)
body_or_refused body s (fault.Body f) known typed (_, _, _, none, _) = none known typed
body_or_refused body s f known typed h = absurd h

valid_or_refused : (p : Payload) (s t : Stage) (f : Fault) → (IsExhausted f → ⊥) → IsValid p s t → Refuses p s f → ⊥
valid_or_refused (payload.CodeSectionEntry body) s t f known (typed, _) h = body_or_refused body s f known typed h
valid_or_refused (payload.UnknownSection n x) s t f known a h = absurd a
valid_or_refused p s t f known (a, _) h = added_or_refused p s.context t.context f known a h

given_or_fails : (p u : Parsing) (x : Payload) (f : Fault) → (IsExhausted f → ⊥) → Gives p.state x p u → FailsToParse p f → ⊥
given_or_fails p u x (fault.Parse e) known g h = payload_or_error p u x e known g h
given_or_fails p u x f known g h = absurd h

ended_or_fails : (p : Parsing) (f : Fault) → p.state ≡ phase.Ended → FailsToParse p f → ⊥
ended_or_fails p (fault.Parse e) ended h = subst (λ z. FailsAt z e p) ended h
ended_or_fails p f ended h = absurd h

-- The next payload can't be read or is not valid.
abbrev Stops : Parsing → Stage → Fault → Type 0
Stops p s f = FailsToParse p f ⊎ ((x : Payload) × (next : Parsing) × Gives p.state x p next × Refuses x s f)

valid_or_stops : (ys : List Payload) (p end : Parsing) (s last : Stage) (f : Fault) → (IsExhausted f → ⊥) → PayloadsOccur ys p end → end.state ≡ phase.Ended → AreValid ys s last →
    Stops p s f → ⊥
valid_or_stops [] p end s last f known is ended valid (inl h) = ended_or_fails p f (subst (λ (z : Parsing). z.state ≡ phase.Ended) is ended) h
valid_or_stops [] p end s last f known is ended valid (inr (x, next, g, _)) = none_after p next x g (subst (λ (z : Parsing). z.state ≡ phase.Ended) is ended)
valid_or_stops (y ∷ ys) p end s last f known (u, g, _) ended valid (inl h) = given_or_fails p u y f known g h
valid_or_stops (y ∷ ys) p end s last f known (u, g, _) ended (m, is, _) (inr (x, next, g2, h)) =
    valid_or_refused y s m f known is (subst (λ z. Refuses z s f) (next_payload p next u x y g2 g).0 h)

valid_or_later : (xs ys : List Payload) (p q end : Parsing) (s t last : Stage) (f : Fault) → (IsExhausted f → ⊥) → PayloadsOccur ys p end → end.state ≡ phase.Ended → AreValid ys s last →
    PayloadsOccur xs p q → AreValid xs s t → Stops q t f → ⊥
valid_or_later [] ys p q end s t last f known occur ended valid same at h =
    valid_or_stops ys p end s last f known occur ended valid (subst (λ z. Stops p z f) at (subst (λ z. Stops z t f) same h))
valid_or_later (x ∷ xs) [] p q end s t last f known is ended valid (u, g, _) more h = none_after p u x g (subst (λ (z : Parsing). z.state ≡ phase.Ended) is ended)
valid_or_later (x ∷ xs) (y ∷ ys) p q end s t last f known (w, g2, occur) ended (k, is2, valid) (u, g, more) (m, is, rest) h =
    let same = next_payload p u w x y g g2 in
    let stage = one_stage y s m k (subst (λ z. IsValid z s m) same.0 is) is2 in
    valid_or_later xs ys u q end m t last f known (subst (λ z. PayloadsOccur ys z end) (sym same.1) occur) ended (subst (λ z. AreValid ys z last) (sym stage) valid) more rest h

pub valid_or_first : (r : Reader) (f : Fault) → (IsExhausted f → ⊥) → IsValidModule r → IsFirstFault r f → ⊥
valid_or_first r f known v (xs, q, t, occur, valid, why) =
    let (end, whole, ended) = v.encodes in
    valid_or_later xs v.payloads (starts r) q end first t v.last f known whole ended v.valid occur valid why
