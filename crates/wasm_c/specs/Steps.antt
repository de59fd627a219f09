use Rattle.std.specs.Prelude.{◌≡◌, ℕ, ◌+◌, ◌-◌, ◌^◌, ◌<◌, ◌≤◌, List, [], ◌∷◌, ◌++◌, length, take, drop, Some, Result, Ok, Err, ◌⊎◌}
use Rattle.wasm_operators.specs.below.declared.error.Error.{Error}
use Rattle.wasm_operators.specs.below.Features.{features_of}
use Rattle.wasm_operators.specs.below.declared.message.Message.TheVariants as message
use Rattle.wasm_operators.specs.below.Source.{Reader, reader_of, at_position, rest, offset_of, BeginsWith}
use Rattle.wasm_operators.specs.grammar.declared.frame_kind.FrameKind.{FrameKind}
use Rattle.wasm_operators.specs.grammar.Frames.{innermost}
use Rattle.wasm_operators.specs.instr.declared.operator.Operator.{Operator}
use Rattle.wasm_operators.specs.opcodes.Allowed.{EncodesAllowed}
use Rattle.wasm_operators.specs.Openings.{opened_by, most_open}
use Rattle.wasm_operators.specs.Next.{ListMayAllocate, all_operators_if}
use Rattle.wasm_operators.specs.Reading.{State, IsFresh, TakesOperator, StopsRead, Finishes}
use Rattle.wasm_operators.specs.Body.{OpensBody}
use Rattle.wasm_operators.specs.Locals.{RefusesLocals}
use Rattle.wasm_operators.specs.Expression.{Placed}
use Rattle.wasm_view.specs.View.{view_of, views}
use Rattle.wasm_view.specs.declared.view.WasmOperator.{WasmOperator}
use Rattle.wasm_c.specs.declared.reader.WasmReader.{WasmReader}
use Rattle.wasm_c.specs.declared.refusal.WasmRefusal.{WasmRefusal}
use Rattle.wasm_c.specs.Frames.{kinds}
use Rattle.wasm_c.specs.Reads.{IsWithin}
use Rattle.wasm_c.specs.Refused.{no_refusal, refusal_of, refusal_at, misuse}

-- A reader of these bytes, for an array of `room` frames.
pub record IsReader (bytes : List ℕ) (room : ℕ) (r : WasmReader) : Type 0 where
  pub features : r.features < 64
  pub offsets : IsWithin r.offset bytes
  pub position : r.position ≤ length bytes
  pub depth : r.depth ≤ room

abbrev pub reader_at : List ℕ → WasmReader → Reader
reader_at bytes r = at_position (reader_of (features_of r.features) r.offset bytes) r.position

-- The state that the C struct and the array represent. The first `depth` frames are open, the others capacity, except the first if none is open.
abbrev pub state_at : List ℕ → WasmReader → List ℕ → State
state_at bytes r frames = record {
  reader = reader_at bytes r;
  frames = kinds (take r.depth frames);
  room = (length frames - 1) - (r.depth - 1);
}

abbrev pub reader_moved : WasmReader → ℕ → ℕ → WasmReader
reader_moved r position depth = record { offset = r.offset; position = position; depth = depth; features = r.features; reserved = r.reserved }

-- An operator is read, with the C struct `view`. Only the reader's position and number of open frames change, and in the array no byte after
-- the open frames.
pub record TakesPlain (bytes : List ℕ) (old new : WasmReader) (frames_old frames_new : List ℕ) (view : WasmOperator) : Type 0 where
  pub op : Operator
  pub was : IsReader bytes (length frames_old) old
  pub takes : TakesOperator EncodesAllowed op (state_at bytes old frames_old) (state_at bytes new frames_new)
  pub view_is : view ≡ view_of (op, offset_of (reader_at bytes old))
  pub still : IsReader bytes (length frames_new) new
  pub moved : new ≡ reader_moved old new.position new.depth
  pub same_room : length frames_new ≡ length frames_old
  pub past : drop new.depth frames_new ≡ drop new.depth frames_old

-- The next operator opens a frame, and there is no space for it.
pub record FindsNoRoom (s : State) : Type 0 where
  pub kind : FrameKind
  pub open_frame : innermost s.frames ≡ Some kind
  pub op : Operator
  pub text : List ℕ
  pub more : List ℕ
  pub encodes : EncodesAllowed s.reader.features kind text op
  pub there : rest s.reader ≡ text ++ more
  pub opens : opened_by op ≡ 1
  pub full : s.room ≡ 0

-- Why no operator is read.
abbrev pub StopsPlain : WasmRefusal → List ℕ → WasmReader → List ℕ → Type 0
StopsPlain r bytes reader frames =
    (IsReader bytes (length frames) reader × (e : Error) × (r ≡ refusal_of e) ×
    StopsRead (all_operators_if (ListMayAllocate EncodesAllowed)) e (state_at bytes reader frames))
    ⊎ ((IsReader bytes (length frames) reader × (r ≡ misuse 102 (offset_of (reader_at bytes reader))) × FindsNoRoom (state_at bytes reader frames))
    ⊎ ((IsReader bytes (length frames) reader → ⊥) × (r ≡ misuse 103 reader.offset)))

-- An operator is read; or none is, and nothing changes.
abbrev pub ReadsPlain : Result WasmOperator WasmRefusal → List ℕ → WasmReader → WasmReader → List ℕ → List ℕ → Type 0
ReadsPlain (Ok view) bytes old new frames_old frames_new = TakesPlain bytes old new frames_old frames_new view
ReadsPlain (Err r) bytes old new frames_old frames_new = (new ≡ old) × (frames_new ≡ frames_old) × StopsPlain r bytes old frames_old

-- As `ReadsPlain`. On `Ok`, `ahead` is then the reader of the bytes at the new position.
abbrev pub StepsPlain : Result (Unit {0}) WasmRefusal → List ℕ → WasmReader → WasmReader → List ℕ → List ℕ → WasmOperator → Reader → Type 0
StepsPlain (Ok done) bytes old new frames_old frames_new view ahead =
    TakesPlain bytes old new frames_old frames_new view × (ahead ≡ reader_at bytes new)
StepsPlain (Err r) bytes old new frames_old frames_new view ahead = (new ≡ old) × (frames_new ≡ frames_old) × StopsPlain r bytes old frames_old

-- `wasm_next` reads an operator and writes its C struct; or it reads none, and nothing changes.
abbrev pub ReturnsNext : WasmRefusal → List ℕ → WasmReader → WasmReader → List ℕ → List ℕ → WasmOperator → WasmOperator → Type 0
ReturnsNext r bytes old new frames_old frames_new out_old out_new =
    ((r ≡ no_refusal (offset_of (reader_at bytes new))) × ReadsPlain (Ok out_new) bytes old new frames_old frames_new)
    ⊎ (ReadsPlain (Err r) bytes old new frames_old frames_new × (out_new ≡ out_old))

abbrev pub unexpected_simd : ℕ → Error
unexpected_simd offset = record { message = message.UnexpectedSimd; offset = offset }

-- The C struct is a reader with an open frame, before the byte 0xfd.
pub record IsBeforeSimd (bytes : List ℕ) (reader : WasmReader) (frames : List ℕ) : Type 0 where
  pub is_reader : IsReader bytes (length frames) reader
  pub open_frame : 0 < reader.depth
  pub prefix : BeginsWith 0xfd (rest (reader_at bytes reader))

-- A read before a SIMD operator fails, and nothing changes.
abbrev pub RefusesSimd : {X : Type 0} → Result X WasmRefusal → List ℕ → WasmReader → WasmReader → List ℕ → List ℕ → Type 0
RefusesSimd result bytes old new frames_old frames_new =
    (result ≡ Err (refusal_of (unexpected_simd (offset_of (reader_at bytes old))))) × (new ≡ old) × (frames_new ≡ frames_old)

-- `wasm_next_plain` fails before a SIMD operator, and nothing changes. Otherwise it is a call of `wasm_next`.
pub record ReturnsNextPlain (r : WasmRefusal) (bytes : List ℕ) (old new : WasmReader) (frames_old frames_new : List ℕ) (out_old out_new : WasmOperator) : Type 0 where
  pub simd : IsBeforeSimd bytes old frames_old →
      (r ≡ refusal_of (unexpected_simd (offset_of (reader_at bytes old)))) × (new ≡ old) × (frames_new ≡ frames_old) × (out_new ≡ out_old)
  pub other : (IsBeforeSimd bytes old frames_old → ⊥) → ReturnsNext r bytes old new frames_old frames_new out_old out_new

-- Whether an expression ends at the reader's position.
abbrev pub FinishesPlain : WasmRefusal → List ℕ → WasmReader → List ℕ → Type 0
FinishesPlain r bytes reader frames =
    (IsReader bytes (length frames) reader × (result : Result (Unit {0}) Error) × (r ≡ refusal_at result (offset_of (reader_at bytes reader))) ×
    Finishes result (state_at bytes reader frames))
    ⊎ ((IsReader bytes (length frames) reader → ⊥) × (r ≡ misuse 103 reader.offset))

-- A reader that has read `position` bytes, and in which only the frame of the expression is open.
abbrev pub fresh_reader : ℕ → ℕ → ℕ → WasmReader
fresh_reader offset features position = record { offset = offset; position = position; depth = 1; features = features; reserved = 0 }

-- Why nothing is opened; then nothing changes.
pub record RefusesOpening (r : WasmRefusal) (bytes : List ℕ) (offset features : ℕ) (old new : WasmReader) (frames_old frames_new : List ℕ) : Type 0 where
  pub unknown : 64 ≤ features → (r ≡ misuse 100 offset) × (new ≡ old) × (frames_new ≡ frames_old)
  pub past : features < 64 → 2 ^ 64 ≤ offset + length bytes → (r ≡ misuse 101 offset) × (new ≡ old) × (frames_new ≡ frames_old)
  pub room : features < 64 → IsWithin offset bytes → frames_old ≡ [] → (r ≡ misuse 102 offset) × (new ≡ old) × (frames_new ≡ frames_old)

-- An expression is opened with its frame, without reading, or nothing changes. The array's other bytes are unchanged.
pub record OpensExpression (r : WasmRefusal) (bytes : List ℕ) (offset features : ℕ) (old new : WasmReader) (frames_old frames_new : List ℕ) : Type 0 where
  pub opens : features < 64 → IsWithin offset bytes → (frames_old ≡ [] → ⊥) →
      (r ≡ no_refusal offset) × (new ≡ fresh_reader offset features 0) × IsReader bytes (length frames_new) new × IsFresh (state_at bytes new frames_new) ×
      (length frames_new ≡ length frames_old) × (drop 1 frames_new ≡ drop 1 frames_old)
  pub refuses : RefusesOpening r bytes offset features old new frames_old frames_new

-- The expression of a body is opened, after the locals; or reading these fails. The array's other bytes are unchanged.
abbrev pub OpensAfterLocals : WasmRefusal → List ℕ → ℕ → ℕ → WasmReader → WasmReader → List ℕ → List ℕ → Type 0
OpensAfterLocals r bytes offset features old new frames_old frames_new =
    ((r ≡ no_refusal (offset_of (reader_at bytes new))) × OpensBody (Ok (state_at bytes new frames_new)) (reader_of (features_of features) offset bytes) ×
    IsReader bytes (length frames_new) new × (length frames_new ≡ length frames_old) × (drop 1 frames_new ≡ drop 1 frames_old) ×
    (new ≡ fresh_reader offset features new.position))
    ⊎ ((new ≡ old) × (frames_new ≡ frames_old) × (e : Error) × (r ≡ refusal_of e) × RefusesLocals e (reader_of (features_of features) offset bytes))

pub record OpensPlain (r : WasmRefusal) (bytes : List ℕ) (offset features : ℕ) (old new : WasmReader) (frames_old frames_new : List ℕ) : Type 0 where
  pub opens : features < 64 → IsWithin offset bytes → (frames_old ≡ [] → ⊥) → OpensAfterLocals r bytes offset features old new frames_old frames_new
  pub refuses : RefusesOpening r bytes offset features old new frames_old frames_new

-- Reads of these operators, each with the offset of its first byte.
abbrev pub ReadsEach : State → Placed → State → Type 0
ReadsEach old [] new = new ≡ old
ReadsEach old (p ∷ ps) new =
    (between : State) × TakesOperator EncodesAllowed p.0 old between × (p.1 ≡ offset_of old.reader) × ReadsEach between ps new

-- A batch ends if the array is full (`Full`), the data ends, or no operator can be read.
abbrev pub EndsBatch : WasmRefusal → List ℕ → WasmReader → List ℕ → Type 0 → Type 0
EndsBatch r bytes reader frames Full =
    ((r ≡ no_refusal (offset_of (reader_at bytes reader))) × IsReader bytes (length frames) reader × (Full ⊎ (rest (reader_at bytes reader) ≡ [])))
    ⊎ StopsPlain r bytes reader frames

-- The bytes after the most frames that are open at once along these operators are unchanged.
abbrev pub MostOpenPast : State → Placed → List ℕ → List ℕ → Type 0
MostOpenPast s placed old new = drop (most_open (Some s.frames) placed) new ≡ drop (most_open (Some s.frames) placed) old

-- A batch of reads: the C structs of these operators are at the start of the array, and its other elements are unchanged. Of the array of frames, the
-- bytes after the most frames that were open at once are unchanged.
pub record ReadsBatch (r : WasmRefusal) (count : ℕ) (bytes : List ℕ) (old new : WasmReader) (frames_old frames_new : List ℕ) (out_old out_new : List WasmOperator) : Type 0 where
  pub placed : Placed
  pub reads : ReadsEach (state_at bytes old frames_old) placed (state_at bytes new frames_new)
  pub counted : count ≡ length placed
  pub fits : length placed ≤ length out_old
  pub in_array : out_new ≡ views placed ++ drop (length placed) out_old
  pub same_room : length frames_new ≡ length frames_old
  pub past : MostOpenPast (state_at bytes old frames_old) placed frames_old frames_new
  pub misused : (IsReader bytes (length frames_old) old → ⊥) → (r ≡ misuse 103 old.offset) × (placed ≡ [])
  pub unchanged : placed ≡ [] → (new ≡ old) × (frames_new ≡ frames_old)
  pub still : IsReader bytes (length frames_old) old → IsReader bytes (length frames_new) new
  pub moved : new ≡ reader_moved old new.position new.depth
  pub ends : EndsBatch r bytes new frames_new (length placed ≡ length out_old)
