-- Encoded lists: their length, and their parts.
use Rattle.std.proofs.Common.{◌≡◌, ℕ, ◌+◌, ◌≤◌, List, [], ◌∷◌, ◌++◌, length, refl, sym, subst, ap, ◌∙◌, append_assoc, length-append, arith}
use Rattle.wasm_below.specs.declared.features.WasmFeatures.{WasmFeatures}
use Rattle.wasm_below.specs.Source.{Reader, offset_of, Takes}
use Rattle.wasm_instr.specs.declared.operator.Operator.{Operator}
use Rattle.wasm_operators.specs.Expression.{Placed, LaidOut, EndsAt}
use Rattle.wasm_operators.proofs.LayoutLemmas.{encoded_some}

pub laid_length : (f : WasmFeatures) (offset : ℕ) (placed : Placed) (bytes : List ℕ) → LaidOut f offset bytes placed → length placed ≤ length bytes
laid_length f offset [] bytes l = omega arith
laid_length f offset (p ∷ ps) bytes (at, text, more, parts, encodes, others) =
    let one = encoded_some f p.0 text encodes in
    let few = laid_length f (offset + length text) ps more others in
    let whole : length bytes ≡ length text + length more = ap length parts ∙ length-append text more in
    omega (arith, one, few, whole)

pub laid_parts : (f : WasmFeatures) (offset : ℕ) (first second : Placed) (bytes : List ℕ) → LaidOut f offset bytes (first ++ second) →
    (a b : List ℕ) × (bytes ≡ a ++ b) × LaidOut f offset a first × LaidOut f (offset + length a) b second
laid_parts f offset [] second bytes l =
    let here : offset ≡ offset + 0 = omega arith in
    ([], bytes, refl, refl, subst (λ o. LaidOut f o bytes second) here l)
laid_parts f offset (p ∷ ps) second bytes (at, text, more, parts, encodes, others) =
    let rest = laid_parts f (offset + length text) ps second more others in
    let sum : length (text ++ rest.0) ≡ length text + length rest.0 = length-append text rest.0 in
    let after : offset + length text + length rest.0 ≡ offset + length (text ++ rest.0) = omega (arith, sum) in (
      text ++ rest.0,
      rest.1,
      parts ∙ ap (λ t. text ++ t) rest.2 ∙ sym (append_assoc text rest.0 rest.1),
      (at, text, rest.0, refl, encodes, rest.3),
      subst (λ o. LaidOut f o rest.1 second) after rest.4,
    )

next_end : (f : WasmFeatures) (offset : ℕ) (after : Placed) (p q : Operator × ℕ) (bytes : List ℕ) → LaidOut f offset bytes (p ∷ q ∷ after) → EndsAt f p q.1
next_end f offset after p q bytes (at, text, more, parts, encodes, (next, _, _, _, _, _)) = (text, encodes, next ∙ ap (λ o. o + length text) (sym at))

last_end : (f : WasmFeatures) (offset : ℕ) (p : Operator × ℕ) (bytes : List ℕ) → LaidOut f offset bytes (p ∷ []) → EndsAt f p (offset + length bytes)
last_end f offset p bytes (at, text, more, parts, encodes, none) =
    let whole : length bytes ≡ length text + length more = ap length parts ∙ length-append text more in
    let empty : length more ≡ 0 = ap length none in
    (text, encodes, omega (arith, whole, empty, at))

pub next_range : (f : WasmFeatures) (offset : ℕ) (before after : Placed) (p q : Operator × ℕ) (bytes : List ℕ) →
    LaidOut f offset bytes (before ++ p ∷ q ∷ after) → EndsAt f p q.1
next_range f offset before after p q bytes l =
    let parts = laid_parts f offset before (p ∷ q ∷ after) bytes l in
    next_end f (offset + length parts.0) after p q parts.1 parts.4

pub last_range : (f : WasmFeatures) (offset : ℕ) (before : Placed) (p : Operator × ℕ) (bytes : List ℕ) → LaidOut f offset bytes (before ++ p ∷ []) →
    EndsAt f p (offset + length bytes)
last_range f offset before p bytes l =
    let parts = laid_parts f offset before (p ∷ []) bytes l in
    let whole : length bytes ≡ length parts.0 + length parts.1 = ap length parts.2 ∙ length-append parts.0 parts.1 in
    let end : offset + length parts.0 + length parts.1 ≡ offset + length bytes = omega (arith, whole) in
    subst (EndsAt f p) end (last_end f (offset + length parts.0) p parts.1 parts.4)

pub last_read : (old new : Reader) (before : Placed) (p : Operator × ℕ) (text : List ℕ) → Takes old new text →
    LaidOut old.features (offset_of old) text (before ++ p ∷ []) → EndsAt old.features p (offset_of new)
last_read old new before p text takes l =
    let here : offset_of new ≡ offset_of old + length text = ap offset_of takes.moved ∙ omega arith in
    subst (EndsAt old.features p) (sym here) (last_range old.features (offset_of old) before p text l)
