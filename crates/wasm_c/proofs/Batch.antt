-- Reads one after another, into an array.
use Rattle.std.proofs.Common.{◌≡◌, ℕ, ◌+◌, ◌<◌, ◌≤◌, List, [], ◌∷◌, ◌++◌, length, drop, set, Err, inr, refl, sym, ap, subst, ◌∙◌, arith, length-append}
use Rattle.wasm_operators.specs.below.Source.{offset_of}
use Rattle.wasm_operators.specs.instr.declared.operator.Operator.{Operator}
use Rattle.wasm_operators.specs.opcodes.Allowed.{EncodesAllowed}
use Rattle.wasm_operators.specs.Expression.{Placed}
use Rattle.wasm_operators.specs.Reading.{State, TakesOperator}
use Rattle.wasm_view.specs.View.{views}
use Rattle.wasm_view.specs.declared.view.WasmOperator.{WasmOperator}
use Rattle.wasm_c.specs.declared.reader.WasmReader.{WasmReader}
use Rattle.wasm_c.specs.declared.refusal.WasmRefusal.{WasmRefusal}
use Rattle.wasm_c.specs.Steps.{IsReader, reader_at, reader_moved, state_at, TakesPlain, ReadsPlain, ReadsEach, EndsBatch, MostOpenPast, ReadsBatch}
use Rattle.wasm_c.proofs.Past.{past_on}
use Rattle.wasm_c.proofs.Steps.{kinds_length}
use Rattle.wasm_c.proofs.Written.{one_more}

-- One more operator.
reads_one : (old now next : State) (placed : Placed) (op : Operator) (offset : ℕ) → ReadsEach old placed now → TakesOperator EncodesAllowed op now next →
    offset ≡ offset_of now.reader → ReadsEach old (placed ++ (op, offset) ∷ []) next
reads_one old now next [] op offset same takes at =
    (next, rw (sym same) takes, at ∙ ap (λ (s : State). offset_of s.reader) same, refl)
reads_one old now next (p ∷ ps) op offset (between, first, place, others) takes at =
    (between, first, place, reads_one between now next ps op offset others takes at)

-- The operators that are read so far are at the start of the array.
abbrev pub Batch : List ℕ → WasmReader → WasmReader → List ℕ → List ℕ → ℕ → List WasmOperator → List WasmOperator → Type 0
Batch bytes old now frames_old frames_now count out_old out = (placed : Placed) × ReadsEach (state_at bytes old frames_old) placed (state_at bytes now frames_now) ×
    (count ≡ length placed) × (length placed ≤ length out_old) × (out ≡ views placed ++ drop (length placed) out_old) ×
    (length frames_now ≡ length frames_old) × MostOpenPast (state_at bytes old frames_old) placed frames_old frames_now × (placed ≡ [] → (now ≡ old) × (frames_now ≡ frames_old)) × (now ≡ reader_moved old now.position now.depth)

pub batch_first : (bytes : List ℕ) (old : WasmReader) (frames : List ℕ) (out : List WasmOperator) → Batch bytes old old frames frames 0 out out
batch_first bytes old frames out = ([], refl, refl, omega arith, refl, refl, refl, λ none. (refl, refl), refl)

pub batch_on : (bytes : List ℕ) (old now next : WasmReader) (frames_old frames_now frames_next : List ℕ) (count : ℕ) (out_old out : List WasmOperator)
    (view : WasmOperator) → Batch bytes old now frames_old frames_now count out_old out → TakesPlain bytes now next frames_now frames_next view →
    count < length out → length out ≡ length out_old → Batch bytes old next frames_old frames_next (count + 1) out_old (set out count view)
batch_on bytes old now next frames_old frames_now frames_next count out_old out view (placed, reads, counted, fits, is, room, past, unchanged, moved) taken within same =
    let p : Operator × ℕ = (taken.op, offset_of (reader_at bytes now)) in
    let first = state_at bytes old frames_old in
    let new = state_at bytes next frames_next in
    let all = reads_one first (state_at bytes now frames_now) new placed taken.op (offset_of (reader_at bytes now)) reads taken.takes refl in
    let open_frames : length new.frames ≡ next.depth = kinds_length frames_next next.depth taken.still.depth in
    let few : length placed < length out_old = omega (arith, within, same, counted) in
    let n = length-append placed (p ∷ []) in (
      placed ++ p ∷ [],
      all,
      omega (arith, counted, n),
      omega (arith, few, n),
      one_more placed p out_old out count view is counted few taken.view_is,
      taken.same_room ∙ room,
      past_on first new placed p frames_old frames_now frames_next all past
          (subst (λ n. drop n frames_next ≡ drop n frames_now) (sym open_frames) taken.past),
      λ none. absurd (omega (arith, n, ap length none)),
      taken.moved ∙ ap (λ (r : WasmReader). reader_moved r next.position next.depth) moved,
    )

-- The batch ends, and the C struct is still a reader.
pub batch_ends : (r : WasmRefusal) (bytes : List ℕ) (old now : WasmReader) (frames_old frames_now : List ℕ) (count : ℕ) (out_old out : List WasmOperator) →
    (b : Batch bytes old now frames_old frames_now count out_old out) → IsReader bytes (length frames_old) old → IsReader bytes (length frames_now) now →
    EndsBatch r bytes now frames_now (length b.0 ≡ length out_old) → ReadsBatch r count bytes old now frames_old frames_now out_old out
batch_ends r bytes old now frames_old frames_now count out_old out b was still ends = record {
  placed = b.0;
  reads = b.1;
  counted = b.2;
  fits = b.3;
  in_array = b.4;
  same_room = b.5;
  past = b.6;
  misused = λ none. absurd (none was);
  unchanged = b.7;
  still = λ first. still;
  moved = b.8;
  ends = ends;
}

-- The batch ends because an operator is not read.
pub batch_stops : (r : WasmRefusal) (bytes : List ℕ) (old now next : WasmReader) (frames_old frames_now frames_next : List ℕ) (count : ℕ)
    (out_old out : List WasmOperator) → Batch bytes old now frames_old frames_now count out_old out → IsReader bytes (length frames_old) old →
    IsReader bytes (length frames_now) now → ReadsPlain (Err r) bytes now next frames_now frames_next →
    ReadsBatch r count bytes old next frames_old frames_next out_old out
batch_stops r bytes old now next frames_old frames_now frames_next count out_old out b was still (same, frames, stops) =
    let there = batch_ends r bytes old now frames_old frames_now count out_old out b was still (inr stops) in
    subst (λ list. ReadsBatch r count bytes old next frames_old list out_old out) (sym frames)
    (subst (λ reader. ReadsBatch r count bytes old reader frames_old frames_now out_old out) (sym same) there)
