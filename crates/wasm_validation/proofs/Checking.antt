-- Payloads checked one by one.
use Rattle.std.proofs.Common.{◌≡◌, ℕ, [], ◌∷◌, Result, Ok, Err, OnOk, IfErr, inl, inr, refl}
use Rattle.wasm_below.specs.declared.error.Error.{Error}
use Rattle.wasm_below.specs.Source.{Reader}
use Rattle.wasm_sections.specs.Items.{Counted}
use Rattle.wasm_payloads.specs.declared.payload.Payload.{Payload}
use Rattle.wasm_payloads.specs.declared.payload.Payload.TheVariants as payload
use Rattle.wasm_payloads.specs.Parsing.{Parsing, starts, Gives, FailsAt}
use Rattle.wasm_module_context.specs.Payloads.{AddsPayload}
use Rattle.wasm_validation.specs.declared.fault.Fault.{Fault}
use Rattle.wasm_validation.specs.declared.fault.Fault.TheVariants as fault
use Rattle.wasm_validation.specs.Valid.{Stage, first, IsValid, IsValidFrom, IsValidModule}
use Rattle.wasm_validation.specs.Faults.{IsExhausted, FailsToAdd, Refuses, StopsLater, IsFirstFault}
use Rattle.wasm_validation.proofs.Excluding.{valid_or_first}

-- Another payload adds what it adds to the context.
pub other_valid : (p : Payload) (s t : Stage) → ((x : Counted) → p ≡ payload.FunctionSection x → ⊥) → ((x : Reader) → p ≡ payload.CodeSectionEntry x → ⊥) →
    ((n : ℕ) (x : Reader) → p ≡ payload.UnknownSection n x → ⊥) → AddsPayload p s.context t.context → t.next ≡ s.next → IsValid p s t
other_valid (payload.FunctionSection a) s t f b u adds next = absurd (f a refl)
other_valid (payload.CodeSectionEntry a) s t f b u adds next = absurd (b a refl)
other_valid (payload.UnknownSection a a2) s t f b u adds next = absurd (u a a2 refl)
other_valid p s t f b u adds next = (adds, next)

pub other_refuses : (p : Payload) (s : Stage) (e : Fault) → ((x : Reader) → p ≡ payload.CodeSectionEntry x → ⊥) → ((n : ℕ) (x : Reader) → p ≡ payload.UnknownSection n x → ⊥) →
    FailsToAdd p s.context e → Refuses p s e
other_refuses (payload.CodeSectionEntry a) s e b u fails = absurd (b a refl)
other_refuses (payload.UnknownSection a a2) s e b u fails = absurd (u a a2 refl)
other_refuses p s e b u fails = fails

pub valid_more : (p q : Parsing) (s t : Stage) (x : Payload) → Gives p.state x p q → IsValid x s t → IsValidFrom q t → IsValidFrom p s
valid_more p q s t x gives is (xs, r, u, occur, valid, ended) = (x ∷ xs, r, u, (q, gives, occur), (t, is, valid), ended)

pub stops_later : (p q : Parsing) (s t : Stage) (f : Fault) (x : Payload) → Gives p.state x p q → IsValid x s t → StopsLater q t f → StopsLater p s f
stops_later p q s t f x gives is (xs, r, u, occur, valid, why) = (x ∷ xs, r, u, (q, gives, occur), (t, is, valid), why)

pub stops_here : (p q : Parsing) (s : Stage) (f : Fault) (x : Payload) → Gives p.state x p q → Refuses x s f → StopsLater p s f
stops_here p q s f x gives refuses = ([], p, s, refl, refl, inr (x, q, gives, refuses))

pub stops_parsing : (p : Parsing) (s : Stage) (e : Error) → FailsAt p.state e p → StopsLater p s (fault.Parse e)
stops_parsing p s e fails = ([], p, s, refl, refl, inl fails)

pub module_valid : (r : Reader) (result : Result Unit Fault) → OnOk result (IsValidFrom (starts r) first) → OnOk result (IsValidModule r)
module_valid r (Ok u) (xs, q, t, occur, valid, ended) = record { payloads = xs; last = t; encodes = (q, occur, ended); valid = valid }
module_valid r (Err f) h = h

pub module_whole : (r : Reader) (result : Result Unit Fault) → IfErr result (λ f. IsFirstFault r f) → IfErr result (λ f. (IsExhausted f → ⊥) → IsValidModule r → ⊥)
module_whole r (Ok u) h = h
module_whole r (Err f) h = λ known valid. valid_or_first r f known valid h
