-- Lists without SIMD operators.
use Rattle.std.proofs.Common.{◌≡◌, ℕ, ◌+◌, ◌≤◌, Bool, true, false, cond, List, [], ◌∷◌, ◌++◌, length, Result, Ok, Err, refl, sym, subst, ap, ◌∙◌, append_assoc, length-append, arith, ◌⊎◌, inl, inr}
use Rattle.std.specs.Prelude.{◌↔◌}
use Rattle.std.proofs.lemmas.Bool.{cases_lt, cases_Bool}
use Rattle.std.proofs.lemmas.List.{append-nil}
use Rattle.wasm_below.specs.declared.error.Error.{Error}
use Rattle.wasm_below.specs.declared.features.WasmFeatures.{WasmFeatures}
use Rattle.wasm_below.specs.declared.message.Message.TheVariants as message
use Rattle.wasm_below.specs.Source.{Source, rest, offset_of, source_of, BeginsWith}
use Rattle.wasm_grammar.specs.declared.frame_kind.FrameKind.{FrameKind}
use Rattle.wasm_grammar.specs.Frames.{frames_after, frames_along}
use Rattle.wasm_grammar.specs.Beginning.{IsWalk}
use Rattle.wasm_grammar.proofs.Runs.{bound, some_of, IsSome_of, frames_along-append}
use Rattle.wasm_instr.specs.declared.operator.Operator.{Operator}
use Rattle.wasm_instr.specs.declared.operator.Operator.TheVariants as operator
use Rattle.wasm_instr.specs.Encoding.{EncodesOperator}
use Rattle.wasm_instr.specs.Kinds.{IsSimd}
use Rattle.wasm_instr.specs.Roles.{role_of, roles_of}
use Rattle.wasm_instr.specs.Row.{prefix_of, opcode_of}
use Rattle.wasm_operators.specs.Expression.{Placed, OfPlaced, operators, LaidOut, AreEncoded, IsPrefixAfter, Longest, IsLongestAfter, IsBeginningOf}
use Rattle.wasm_operators.specs.Flat.{IsAllowedFrom, IsFlatFrom}
use Rattle.wasm_operators.specs.Reading.{State, TakesOperators, StopsRun, RunsToEnd, Decoder}
use Rattle.wasm_operators.specs.MainTheorem.{ReadSoFar, StopsAtSimd, ClosesFrom}
use Rattle.wasm_operators.specs.Visiting.{is_simd, scalar_beginning, IsScalar}
use Rattle.wasm_operators.proofs.LayoutLemmas.{roles_of-append, operators-append, begins_walk, not_empty, laid_beginning, laid_goes_on, laid_no_longer, laid_same, one_longest, GoesOn, goes_allowed}
use Rattle.wasm_operators.proofs.OneRead.{is_memory}
use Rattle.wasm_instr.proofs.FirstBytes.{first_byte, begins_encoding}
use Rattle.wasm_operators.proofs.Premises.{AreEach, IsNotSimd, Keeps, RefusesSimd}
use Rattle.wasm_operators.proofs.Runs.{features_stay, read_further, beginning_of_run, IsStuckFor, stuck_run}
use Rattle.wasm_operators.proofs.VisitLemmas.{not_simd_if, simd_if, scalar_begins, scalar_longest, scalar_none}

pub each_scalar : (placed : Placed) → IsScalar placed → AreEach IsNotSimd placed
each_scalar placed scalar before after p e vector = scalar_none placed p before after (scalar ∙ e) vector

next_simd : (before : List Operator) (old new : State) (placed longest : Placed) → ReadSoFar before old → (r : TakesOperators old new placed) →
    IsLongestAfter before (source_of old.reader) longest → IsStuckFor IsNotSimd new →
    (g : GoesOn old.reader.features placed longest (rest new.reader)) → is_simd g.next.0 ≡ true
next_simd before old new placed longest h r l none g =
    elim (cases_Bool (is_simd g.next.0)) [
      | inl is ↦ is
      | inr not ↦ (
          let encodes = subst (λ f. EncodesOperator f g.text g.next.0) (sym (features_stay old.reader new.reader r.text r.takes)) g.encodes in
          absurd (goes_allowed before old.reader.features placed longest (rest new.reader) new.frames (read_further before old new placed h r).path
          (begins_walk old.reader.features (before ++ operators longest) l.beginning.begins) g
          (none g.text g.more g.next.0 encodes (not_simd_if g.next.0 not) g.bytes))
          )
    ]

run_and_longest : (before : List Operator) (old new : State) (placed longest : Placed) → ReadSoFar before old → (r : TakesOperators old new placed) →
    IsLongestAfter before (source_of old.reader) longest →
    (placed ≡ longest) ⊎ GoesOn old.reader.features placed longest (rest new.reader)
run_and_longest before old new placed longest h r l =
    let both = sym r.takes.parts ∙ l.beginning.parts in
    let le = l.longest placed (beginning_of_run before old new placed h r) tt in
    elim (cases_lt (length placed) (length longest)) [
      | inl lt ↦ inr (laid_goes_on old.reader.features (offset_of old.reader) placed longest r.text l.beginning.beginning (rest new.reader) l.beginning.more
          r.laid l.beginning.laid both lt)
      | inr ge ↦ inl (laid_same old.reader.features (offset_of old.reader) placed longest r.text l.beginning.beginning (rest new.reader) l.beginning.more r.laid
          l.beginning.laid both (omega arith)).0
    ]

simd_byte : (op : Operator) → IsSimd op → first_byte (prefix_of op) (opcode_of op) ≡ 0xfd
simd_byte (operator.Simd op) is = refl
simd_byte _ is = absurd is

pub scalar_stops_at_simd : (decoder : Decoder) → Keeps IsNotSimd IsScalar decoder.Encodes → RefusesSimd decoder.Fault →
    (before : List Operator) (e : Error) (old new : State) (placed longest : Placed) → ReadSoFar before old → TakesOperators old new placed → IsScalar placed → StopsRun decoder e new →
    IsLongestAfter before (source_of old.reader) longest → (IsScalar longest → ⊥) → (e.message ≡ message.UnexpectedSimd) ⊎ (e.message ≡ message.OutOfMemory)
scalar_stops_at_simd decoder keeps refuses before e old new placed longest h r scalar stops l vectors =
    elim (is_memory e.message) [
      | inl is ↦ inr is
      | inr other ↦ inl (elim (run_and_longest before old new placed longest h r l) [
        | inl same ↦ absurd (vectors (subst IsScalar same scalar))
        | inr g ↦ at_next g other
      ])
    ]
  where
    led : GoesOn old.reader.features placed longest (rest new.reader) → (e.message ≡ message.OutOfMemory → ⊥) → BeginsWith 0xfd (rest new.reader)
    led g other =
        let none = stuck_run decoder IsNotSimd keeps.takes e new stops other in
        let vector = simd_if g.next.0 (next_simd before old new placed longest h r l none g) in
        let first = begins_encoding old.reader.features g.next.0 g.text g.encodes in
        let byte = simd_byte g.next.0 vector in
        (first.0 ++ g.more, g.bytes ∙ ap (λ x. x ++ g.more) (first.1 ∙ ap (λ (b : ℕ). b ∷ first.0) byte))

    at_next : GoesOn old.reader.features placed longest (rest new.reader) → (e.message ≡ message.OutOfMemory → ⊥) → e.message ≡ message.UnexpectedSimd
    at_next g other = stopped stops
      where
        stopped : StopsRun decoder e new → e.message ≡ message.UnexpectedSimd
        stopped (inl left) = absurd (not_empty old.reader.features g.next.0 g.text g.more g.encodes (sym left.0 ∙ g.bytes))
        stopped (inr (some, inl none)) =
            absurd (goes_allowed before old.reader.features placed longest (rest new.reader) new.frames (read_further before old new placed h r).path
            (begins_walk old.reader.features (before ++ operators longest) l.beginning.begins) g
            (ap (λ frames. frames_after frames (role_of g.next.0)) none.0))
        stopped (inr (some, inr (inl there))) = refuses new.reader.features there.kind e.message new.reader e.offset there.fault (led g other)
        stopped (inr (some, inr (inr memory))) = absurd (other memory.0)

pub scalar_refused : {X : Type 0} (decoder : Decoder) (Effect : OfPlaced) → ((placed : Placed) → Effect placed → IsScalar placed) →
    Keeps IsNotSimd IsScalar decoder.Encodes → RefusesSimd decoder.Fault → (r : Result X Error) (old new : State) → RunsToEnd decoder Effect r old new →
    StopsAtSimd r old
scalar_refused decoder Effect kept keeps refuses (Ok x) old new run before h longest l vectors = tt
scalar_refused decoder Effect kept keeps refuses (Err e) old new (placed, effect, ran, stops) before h longest l vectors =
    scalar_stops_at_simd decoder keeps refuses before e old new placed longest h ran (kept placed effect) stops l vectors

laid_first : (f : WasmFeatures) (offset : ℕ) (ps qs : Placed) (bytes : List ℕ) → LaidOut f offset bytes (ps ++ qs) →
    (a b : List ℕ) × (bytes ≡ a ++ b) × LaidOut f offset a ps
laid_first f offset [] qs bytes l = ([], bytes, refl, refl)
laid_first f offset (p ∷ ps) qs bytes (at, text, more, parts, encodes, l) =
    let others = laid_first f (offset + length text) ps qs more l in (
      text ++ others.0,
      others.1,
      parts ∙ ap (λ z. text ++ z) others.2 ∙ sym (append_assoc text others.0 others.1),
      (at, text, others.0, refl, encodes, others.3),
    )

begins_first : (before : List Operator) (s : Source) (ps qs : Placed) → IsPrefixAfter before s (ps ++ qs) → IsPrefixAfter before s ps
begins_first before s ps qs h =
    let a = laid_first s.features s.offset ps qs h.beginning h.laid in
    let split : (before ++ operators (ps ++ qs)) ++ h.begins.0 ≡ (before ++ operators ps) ++ (operators qs ++ h.begins.0) =
    ap (λ z. (before ++ z) ++ h.begins.0) (operators-append ps qs) ∙
    ap (λ z. z ++ h.begins.0) (sym (append_assoc before (operators ps) (operators qs))) ∙
    append_assoc (before ++ operators ps) (operators qs) h.begins.0 in
    record {
      beginning = a.0;
      more = a.1 ++ h.more;
      parts = h.parts ∙ ap (λ z. z ++ h.more) a.2 ∙ append_assoc a.0 a.1 h.more;
      laid = a.3;
      begins = (
        operators qs ++ h.begins.0,
        subst (λ ops. IsWalk (roles_of ops)) split h.begins.1,
        subst (AreEncoded s.features) split h.begins.2,
      );
    }

allowed_first : (frames : List FrameKind) (s : Source) (ps qs : Placed) → IsAllowedFrom frames s (ps ++ qs) → IsAllowedFrom frames s ps
allowed_first frames s ps qs h =
    let a = laid_first s.features s.offset ps qs h.beginning h.laid in
    let some = some_of (frames_along frames (roles_of (operators (ps ++ qs)))) h.allowed in
    let split : roles_of (operators (ps ++ qs)) ≡ roles_of (operators ps) ++ roles_of (operators qs) =
    ap roles_of (operators-append ps qs) ∙ roles_of-append (operators ps) (operators qs) in
    let along = sym (frames_along-append frames (roles_of (operators ps)) (roles_of (operators qs))) ∙ sym (ap (frames_along frames) split) ∙ some.1 in
    let b = bound (λ there. frames_along there (roles_of (operators qs))) (frames_along frames (roles_of (operators ps))) some.0 along in
    record {
      beginning = a.0;
      more = a.1 ++ h.more;
      parts = h.parts ∙ ap (λ z. z ++ h.more) a.2 ∙ append_assoc a.0 a.1 h.more;
      laid = a.3;
      allowed = IsSome_of (frames_along frames (roles_of (operators ps))) b.0 b.1;
    }

begins_length : (ps qs : Placed) → IsBeginningOf ps qs → length ps ≤ length qs
begins_length ps qs (more, e) = let n : length qs ≡ length ps + length more = ap length e ∙ length-append ps more in omega (arith, n)

pub scalar_is_scalar : (ps : Placed) → IsScalar (scalar_beginning ps)
scalar_is_scalar [] = refl
scalar_is_scalar (p ∷ ps) = go (is_simd p.0) refl (scalar_is_scalar ps)
  where
    go : (b : Bool) → is_simd p.0 ≡ b → IsScalar (scalar_beginning ps) →
        scalar_beginning (cond b [] (p ∷ scalar_beginning ps)) ≡ cond b [] (p ∷ scalar_beginning ps)
    go true is h = refl
    go false is h = ap (λ c. cond c [] (p ∷ scalar_beginning (scalar_beginning ps))) is ∙ ap (λ (z : Placed). p ∷ z) h

scalar_longest_of : (before : List Operator) (s : Source) (longest : Placed) → IsLongestAfter before s longest →
    Longest (IsPrefixAfter before s) IsScalar (scalar_beginning longest)
scalar_longest_of before s longest l =
    let part = scalar_begins longest in
    record {
      beginning = begins_first before s (scalar_beginning longest) part.0 (subst (IsPrefixAfter before s) part.1 l.beginning);
      kept = scalar_is_scalar longest;
      longest = λ others other scalar. begins_length others (scalar_beginning longest) (scalar_longest longest others
          (laid_beginning s.features s.offset others longest other.beginning l.beginning.beginning other.more l.beginning.more other.laid l.beginning.laid
          (sym other.parts ∙ l.beginning.parts) (l.longest others other tt)) scalar);
    }

pub scalar_exactly : (before : List Operator) (s : Source) (longest placed : Placed) → IsLongestAfter before s longest →
    Longest (IsPrefixAfter before s) IsScalar placed ↔ (placed ≡ scalar_beginning longest)
scalar_exactly before s longest placed l = (
  λ h. one_longest IsScalar before s placed (scalar_beginning longest) h (scalar_longest_of before s longest l),
  λ same. subst (Longest (IsPrefixAfter before s) IsScalar) (sym same) (scalar_longest_of before s longest l),
)

pub scalar_part : (before : List Operator) (s : Source) (longest placed : Placed) → IsLongestAfter before s longest → IsPrefixAfter before s placed →
    IsScalar placed → IsBeginningOf placed (scalar_beginning longest)
scalar_part before s longest placed l h scalar =
    scalar_longest longest placed (laid_beginning s.features s.offset placed longest h.beginning l.beginning.beginning h.more l.beginning.more h.laid
    l.beginning.laid (sym h.parts ∙ l.beginning.parts) (l.longest placed h tt)) scalar

pub scalar_flat : (frames : List FrameKind) (s : Source) (flat : Placed) → IsFlatFrom frames s flat → Longest (IsAllowedFrom frames s) IsScalar (scalar_beginning flat)
scalar_flat frames s flat l =
    let part = scalar_begins flat in
    record {
      beginning = allowed_first frames s (scalar_beginning flat) part.0 (subst (IsAllowedFrom frames s) part.1 l.beginning);
      kept = scalar_is_scalar flat;
      longest = λ others other scalar. begins_length others (scalar_beginning flat) (scalar_longest flat others
          (laid_beginning s.features s.offset others flat other.beginning l.beginning.beginning other.more l.beginning.more other.laid l.beginning.laid
          (sym other.parts ∙ l.beginning.parts) (l.longest others other tt)) scalar);
    }

pub scalar_closes : (frames : List FrameKind) (s : Source) (flat : Placed) → IsFlatFrom frames s flat →
    ClosesFrom frames s (scalar_beginning flat) ↔ (ClosesFrom frames s flat × IsScalar flat)
scalar_closes frames s flat l = (
  λ closes.
      let le = laid_no_longer s.features s.offset (scalar_beginning flat) flat s.bytes l.beginning.beginning l.beginning.more closes.0 l.beginning.laid
      (append-nil s.bytes ∙ l.beginning.parts) in
      let ge = begins_length (scalar_beginning flat) flat (scalar_begins flat) in
      let same = (laid_same s.features s.offset (scalar_beginning flat) flat s.bytes l.beginning.beginning [] l.beginning.more closes.0 l.beginning.laid
      (append-nil s.bytes ∙ l.beginning.parts) (omega (arith, le, ge))).0 in
      (subst (ClosesFrom frames s) same closes, same),
  λ h. subst (ClosesFrom frames s) (sym h.1) h.0,
)
