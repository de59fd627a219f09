-- A longest list exists among lists no longer than the bytes, if one list has the property.
use Rattle.std.proofs.Common.{◌≡◌, ℕ, zero, suc, ◌+◌, ◌≤◌, List, [], ◌++◌, length, refl, sym, subst, ap, ◌∙◌, length-append, arith, inl, inr}
use Rattle.std.proofs.Math.Nat.{eq-or-lt_of_le}
use Rattle.std.proofs.lemmas.List.{append-nil}
use Rattle.wasm_below.specs.declared.features.WasmFeatures.{WasmFeatures}
use Rattle.wasm_below.specs.Source.{Source, source_of}
use Rattle.wasm_grammar.specs.declared.frame_kind.FrameKind.{FrameKind}
use Rattle.wasm_instr.specs.declared.operator.Operator.{Operator}
use Rattle.wasm_operators.specs.Expression.{Placed, OfPlaced, LaidOut, Begins, IsPrefixAfter, Longest}
use Rattle.wasm_operators.specs.Flat.{IsAllowedFrom}
use Rattle.wasm_operators.specs.MainTheorem.{ReadSoFar}
use Rattle.wasm_operators.specs.Reading.{State}
use Rattle.wasm_operators.proofs.LayoutLemmas.{path_begins}
use Rattle.wasm_operators.proofs.Ranges.{laid_length}

-- If no list is the longest, none is as long as the bound, nor one less, down to the empty list.
no_longest : (P : OfPlaced) (first : Placed) → P first → ((x : Placed) → P x → ((y : Placed) → P y → length y ≤ length x) → ⊥) → (k : ℕ) →
    ((x : Placed) → P x → length x ≤ k) → ⊥
no_longest P first p none zero bound = none first p (λ y q. let few = bound y q in omega (arith, few))
no_longest P first p none (suc k) bound =
    no_longest P first p none k (λ x q.
    elim (eq-or-lt_of_le (bound x q)) [
      | inl same ↦ absurd (none x q (λ y r. let few = bound y r in omega (arith, few, same)))
      | inr less ↦ omega (arith, less)
    ])

short : (f : WasmFeatures) (offset : ℕ) (placed : Placed) (bytes beginning more : List ℕ) → bytes ≡ beginning ++ more → LaidOut f offset beginning placed →
    length placed ≤ length bytes
short f offset placed bytes beginning more parts laid =
    let few = laid_length f offset placed beginning laid in
    let whole : length bytes ≡ length beginning + length more = ap length parts ∙ length-append beginning more in
    omega (arith, few, whole)

pub longest_is_some : (Kept : OfPlaced) → Kept [] → (before : List Operator) (s : State) → ReadSoFar before s →
    ((placed : Placed) → Longest (IsPrefixAfter before (source_of s.reader)) Kept placed → ⊥) → ⊥
longest_is_some Kept kept before s read_so_far none =
    let source = source_of s.reader in
    let begins = path_begins source.features before s.frames read_so_far.path read_so_far.encodes in
    let first : IsPrefixAfter before source [] = record {
      beginning = [];
      more = source.bytes;
      parts = refl;
      laid = refl;
      begins = subst (Begins source.features) (sym (append-nil before)) begins;
    } in
    no_longest (λ x. IsPrefixAfter before source x × Kept x) [] (first, kept)
    (λ x h long. none x (record { beginning = h.0; kept = h.1; longest = λ y b k. long y (b, k) })) (length source.bytes)
    (λ x h. short source.features source.offset x source.bytes h.0.beginning h.0.more h.0.parts h.0.laid)

pub flat_is_some : (Kept : OfPlaced) → Kept [] → (frames : List FrameKind) (s : Source) → ((placed : Placed) → Longest (IsAllowedFrom frames s) Kept placed → ⊥) → ⊥
flat_is_some Kept kept frames s none =
    let first : IsAllowedFrom frames s [] = record { beginning = []; more = s.bytes; parts = refl; laid = refl; allowed = refl } in
    no_longest (λ x. IsAllowedFrom frames s x × Kept x) [] (first, kept)
    (λ x h long. none x (record { beginning = h.0; kept = h.1; longest = λ y b k. long y (b, k) })) (length s.bytes)
    (λ x h. short s.features s.offset x s.bytes h.0.beginning h.0.more h.0.parts h.0.laid)
