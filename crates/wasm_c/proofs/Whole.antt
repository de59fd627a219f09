-- An expression that is opened, read call by call, and finished.
use Rattle.std.proofs.Common.{◌≡◌, ℕ, ◌+◌, ◌^◌, ◌<◌, ◌≤◌, List, [], ◌∷◌, ◌++◌, length, Result, Ok, Err, refl, sym, ap, subst, ◌∙◌, arith, append_assoc, inl, inr, ◌⊎◌}
use Rattle.std.proofs.lemmas.Bool.{cases_lt}
use Rattle.std.proofs.lemmas.List.{append-nil}
use Rattle.wasm_operators.specs.below.Features.{features_of}
use Rattle.wasm_operators.specs.below.Refusal.{number_of}
use Rattle.wasm_operators.specs.below.Source.{reader_of, source_of, rest, offset_of}
use Rattle.wasm_operators.specs.below.declared.error.Error.{Error}
use Rattle.wasm_operators.specs.below.declared.message.Message.{Message}
use Rattle.wasm_operators.specs.below.declared.message.Message.TheVariants as message
use Rattle.wasm_operators.specs.instr.declared.operator.Operator.{Operator}
use Rattle.wasm_operators.specs.Body.{EncodesBody, OpensBody}
use Rattle.wasm_operators.specs.Expression.{Placed, EncodesExpression}
use Rattle.wasm_operators.specs.Locals.{Declaration}
use Rattle.wasm_operators.specs.Reading.{State, IsFresh, TakesOperators, Finishes}
use Rattle.wasm_operators.specs.Laws.{TakesNone, TakesOneMore}
use Rattle.wasm_view.specs.View.{view_of}
use Rattle.wasm_view.specs.declared.view.WasmOperator.{WasmOperator}
use Rattle.wasm_c.specs.declared.reader.WasmReader.{WasmReader}
use Rattle.wasm_c.specs.declared.refusal.WasmRefusal.{WasmRefusal}
use Rattle.wasm_c.specs.Refused.{refusal_of, refusal_at, misuse}
use Rattle.wasm_c.specs.Steps.{reader_at, state_at, fresh_reader, TakesPlain, ReadsEach, OpensExpression, OpensAfterLocals, OpensPlain, FinishesPlain}
use Rattle.wasm_c.proofs.Cited.{Fresh, OfTree, OfLocals}
use Rattle.wasm_c.proofs.Found.{ends_body}

-- ---- reads, one after another

pub one_read : (bytes : List ℕ) (old new : WasmReader) (frames_old frames_new : List ℕ) (view : WasmOperator) →
    TakesPlain bytes old new frames_old frames_new view →
    (p : Operator × ℕ) × (view ≡ view_of p) × ReadsEach (state_at bytes old frames_old) (p ∷ []) (state_at bytes new frames_new)
one_read bytes old new frames_old frames_new view taken =
    ((taken.op, offset_of (reader_at bytes old)), taken.view_is, (state_at bytes new frames_new, taken.takes, refl, refl))

pub reads_join : (old mid new : State) (first second : Placed) → ReadsEach old first mid → ReadsEach mid second new → ReadsEach old (first ++ second) new
reads_join old mid new [] second same others = subst (λ s. ReadsEach s second new) same others
reads_join old mid new (p ∷ ps) second (between, takes, at, more) others = (between, takes, at, reads_join between mid new ps second more others)

each_after : TakesOneMore → (opened old new : State) (found placed : Placed) → TakesOperators opened old found → ReadsEach old placed new →
    TakesOperators opened new (found ++ placed)
each_after law opened old new found [] ran same =
    subst (λ list. TakesOperators opened new list) (sym (append-nil found)) (subst (λ s. TakesOperators opened s found) (sym same) ran)
each_after law opened old new found (p ∷ ps) ran (between, takes, at, others) =
    let one = subst (λ n. TakesOperators opened between (found ++ (p.0, n) ∷ [])) (sym at) (law opened old between found p.0 ran takes) in
    subst (λ list. TakesOperators opened new list) (append_assoc found (p ∷ []) ps)
    (each_after law opened between new (found ++ p ∷ []) ps one others)

-- ---- the end

-- Each error has a number.
numbered : (m : Message) → number_of m ≡ 0 → ⊥
numbered message.EndOfData zero = omega (arith, zero)
numbered _ zero = omega (arith, zero)

number_at : (r other : WasmRefusal) → r ≡ other → r.number ≡ 0 → other.number ≡ 0
number_at r other is zero = sym (ap (λ (refusal : WasmRefusal). refusal.number) is) ∙ zero

ends_closed : (result : Result (Unit {0}) Error) (r : WasmRefusal) (s : State) (offset : ℕ) → r ≡ refusal_at result offset → Finishes result s →
    r.number ≡ 0 → (s.frames ≡ []) × (rest s.reader ≡ [])
ends_closed (Ok x) r s offset reported ends zero = ends
ends_closed (Err e) r s offset reported ends zero = absurd (numbered e.message (number_at r (refusal_of e) reported zero))

finished : (r : WasmRefusal) (bytes : List ℕ) (reader : WasmReader) (frames : List ℕ) → FinishesPlain r bytes reader frames → r.number ≡ 0 →
    ((state_at bytes reader frames).frames ≡ []) × (rest (reader_at bytes reader) ≡ [])
finished r bytes reader frames (inl (was, result, reported, ends)) zero =
    ends_closed result r (state_at bytes reader frames) (offset_of (reader_at bytes reader)) reported ends zero
finished r bytes reader frames (inr (none, reported)) zero =
    let n = number_at r (misuse 103 reader.offset) reported zero in
    absurd (omega (arith, n))

-- The laws that the proof about a whole expression needs.
pub record HasLaws : Type 0 where
  pub fresh : Fresh
  pub first : TakesNone
  pub next : TakesOneMore
  pub tree : OfTree

-- If all frames are closed and all bytes are read, an expression was read.
whole_between : HasLaws → (end : WasmRefusal) (bytes : List ℕ) (opened last : WasmReader) (frames_opened frames_last : List ℕ) (placed : Placed) →
    IsFresh (state_at bytes opened frames_opened) → ReadsEach (state_at bytes opened frames_opened) placed (state_at bytes last frames_last) →
    FinishesPlain end bytes last frames_last → end.number ≡ 0 → EncodesExpression (source_of (reader_at bytes opened)) placed
whole_between laws end bytes opened last frames_opened frames_last placed is reads finish zero =
    let first = state_at bytes opened frames_opened in
    let new = state_at bytes last frames_last in
    let ran = each_after laws.next first first new [] placed (laws.first first) reads in
    let closed = finished end bytes last frames_last finish zero in
    (laws.tree [] first new placed (laws.fresh first is) ran closed.0 closed.1).encodes

-- ---- the start

opened_there : (r : WasmRefusal) (bytes : List ℕ) (offset features : ℕ) (old new : WasmReader) (frames_old frames_new : List ℕ) →
    OpensExpression r bytes offset features old new frames_old frames_new → r.number ≡ 0 → (features < 64) ⊎ (64 ≤ features) →
    (offset + length bytes < 2 ^ 64) ⊎ (2 ^ 64 ≤ offset + length bytes) →
    (new ≡ fresh_reader offset features 0) × IsFresh (state_at bytes new frames_new)
opened_there r bytes offset features old new frames_old frames_new o zero (inr unknown) within =
    let n = number_at r (misuse 100 offset) (o.refuses.unknown unknown).0 zero in
    absurd (omega (arith, n))
opened_there r bytes offset features old new frames_old frames_new o zero (inl known) (inr past) =
    let n = number_at r (misuse 101 offset) (o.refuses.past known past).0 zero in
    absurd (omega (arith, n))
opened_there r bytes offset features old new [] frames_new o zero (inl known) (inl within) =
    let n = number_at r (misuse 102 offset) (o.refuses.room known within refl).0 zero in
    absurd (omega (arith, n))
opened_there r bytes offset features old new (f ∷ fs) frames_new o zero (inl known) (inl within) =
    let opens = o.opens known within (λ none. cc none) in
    (opens.1, opens.3)

pub whole_read : HasLaws → (opening end : WasmRefusal) (bytes : List ℕ) (offset features : ℕ) (before opened last : WasmReader)
    (frames_before frames_opened frames_last : List ℕ) (placed : Placed) →
    OpensExpression opening bytes offset features before opened frames_before frames_opened → opening.number ≡ 0 →
    ReadsEach (state_at bytes opened frames_opened) placed (state_at bytes last frames_last) → FinishesPlain end bytes last frames_last →
    end.number ≡ 0 → EncodesExpression (source_of (reader_of (features_of features) offset bytes)) placed
whole_read laws opening end bytes offset features before opened last frames_before frames_opened frames_last placed opens zero reads finish done =
    let there =
    opened_there opening bytes offset features before opened frames_before frames_opened opens zero (cases_lt features 64)
    (cases_lt (offset + length bytes) (2 ^ 64)) in
    subst (λ (r : WasmReader). EncodesExpression (source_of (reader_at bytes r)) placed) there.0
    (whole_between laws end bytes opened last frames_opened frames_last placed there.1 reads finish done)

after_locals : (r : WasmRefusal) (bytes : List ℕ) (offset features : ℕ) (old new : WasmReader) (frames_old frames_new : List ℕ) →
    OpensAfterLocals r bytes offset features old new frames_old frames_new → r.number ≡ 0 →
    OpensBody (Ok (state_at bytes new frames_new)) (reader_of (features_of features) offset bytes)
after_locals r bytes offset features old new frames_old frames_new (inl (none, opens, was, room, past, fresh)) zero = opens
after_locals r bytes offset features old new frames_old frames_new (inr (same, frames, e, reported, refused)) zero =
    absurd (numbered e.message (number_at r (refusal_of e) reported zero))

body_there : (r : WasmRefusal) (bytes : List ℕ) (offset features : ℕ) (old new : WasmReader) (frames_old frames_new : List ℕ) →
    OpensPlain r bytes offset features old new frames_old frames_new → r.number ≡ 0 → (features < 64) ⊎ (64 ≤ features) →
    (offset + length bytes < 2 ^ 64) ⊎ (2 ^ 64 ≤ offset + length bytes) →
    OpensBody (Ok (state_at bytes new frames_new)) (reader_of (features_of features) offset bytes)
body_there r bytes offset features old new frames_old frames_new o zero (inr unknown) within =
    let n = number_at r (misuse 100 offset) (o.refuses.unknown unknown).0 zero in
    absurd (omega (arith, n))
body_there r bytes offset features old new frames_old frames_new o zero (inl known) (inr past) =
    let n = number_at r (misuse 101 offset) (o.refuses.past known past).0 zero in
    absurd (omega (arith, n))
body_there r bytes offset features old new [] frames_new o zero (inl known) (inl within) =
    let n = number_at r (misuse 102 offset) (o.refuses.room known within refl).0 zero in
    absurd (omega (arith, n))
body_there r bytes offset features old new (f ∷ fs) frames_new o zero (inl known) (inl within) =
    after_locals r bytes offset features old new (f ∷ fs) frames_new (o.opens known within (λ none. cc none)) zero

pub whole_body_read : OfLocals → HasLaws → (opening end : WasmRefusal) (bytes : List ℕ) (offset features : ℕ) (before opened last : WasmReader)
    (frames_before frames_opened frames_last : List ℕ) (placed : Placed) →
    OpensPlain opening bytes offset features before opened frames_before frames_opened → opening.number ≡ 0 →
    ReadsEach (state_at bytes opened frames_opened) placed (state_at bytes last frames_last) → FinishesPlain end bytes last frames_last →
    end.number ≡ 0 → (declarations : List Declaration) × EncodesBody (source_of (reader_of (features_of features) offset bytes)) declarations placed
whole_body_read of_locals laws opening end bytes offset features before opened last frames_before frames_opened frames_last placed opens zero reads finish done =
    let body = body_there opening bytes offset features before opened frames_before frames_opened opens zero (cases_lt features 64)
    (cases_lt (offset + length bytes) (2 ^ 64)) in
    ends_body {X = Unit {0}} of_locals (Ok tt) (reader_of (features_of features) offset bytes) (state_at bytes opened frames_opened) placed body
    (whole_between laws end bytes opened last frames_opened frames_last placed body.1 reads finish done)
