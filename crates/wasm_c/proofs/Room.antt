-- Along the bytes that a reader was opened over, half as many frames as bytes, and one more, are enough.
use Rattle.std.proofs.Common.{◌≡◌, ℕ, ◌+◌, ◌*◌, ◌/◌, ◌≤◌, List, [], ◌∷◌, length, sym, ap, subst, ◌∙◌, arith, length-append, length-drop}
use Rattle.wasm_operators.specs.below.Features.{features_of}
use Rattle.wasm_operators.specs.below.Source.{rest}
use Rattle.wasm_operators.specs.below.declared.features.WasmFeatures.{WasmFeatures}
use Rattle.wasm_operators.specs.instr.declared.operator.Operator.{Operator}
use Rattle.wasm_operators.specs.instr.Encoding.{EncodesOperator}
use Rattle.wasm_operators.specs.Expression.{Placed}
use Rattle.wasm_operators.specs.MainTheorem.{IsWithinDepth}
use Rattle.wasm_operators.specs.Laws.{AddsFewFrames}
use Rattle.wasm_operators.specs.Openings.{opened_by}
use Rattle.wasm_operators.specs.Reading.{State, IsFresh}
use Rattle.wasm_c.specs.declared.reader.WasmReader.{WasmReader}
use Rattle.wasm_c.specs.Steps.{IsReader, reader_at, state_at, FindsNoRoom, ReadsEach}
use Rattle.wasm_c.proofs.Steps.{kinds_length}

-- The statement of the law `frames_opened` about the half.
abbrev pub OpensHalf : WasmFeatures → Type 0
OpensHalf f = (op : Operator) (text : List ℕ) → EncodesOperator f text op → 2 * opened_by op ≤ length text

depth_along : AddsFewFrames → (old new : State) (placed : Placed) → ReadsEach old placed new → IsWithinDepth old new
depth_along law old new [] same = subst (λ s. IsWithinDepth old s) (sym same) (omega arith)
depth_along law old new (p ∷ ps) (between, takes, at, others) =
    let first = law p.0 old between takes in
    let after = depth_along law between new ps others in
    omega (arith, first, after)

pub room_along : AddsFewFrames → (features : WasmFeatures) → OpensHalf features → (bytes : List ℕ) (opened now : WasmReader) (frames_opened frames_now : List ℕ)
    (placed : Placed) → IsFresh (state_at bytes opened frames_opened) →
    ReadsEach (state_at bytes opened frames_opened) placed (state_at bytes now frames_now) → IsReader bytes (length frames_now) now →
    features_of now.features ≡ features → length bytes / 2 + 1 ≤ length frames_now → FindsNoRoom (state_at bytes now frames_now) → ⊥
room_along law features opens bytes opened now frames_opened frames_now placed fresh reads was same enough none =
    let depth = kinds_length frames_now now.depth was.depth in
    let along = depth_along law (state_at bytes opened frames_opened) (state_at bytes now frames_now) placed reads in
    let one = ap length fresh in
    let half = opens none.op none.text (subst (λ f. EncodesOperator f none.text none.op) same none.encodes.0) in
    let left : length (rest (reader_at bytes now)) ≡ length none.text + length none.more = ap length none.there ∙ length-append none.text none.more in
    omega (arith, depth, along, one, half, none.opens, left, length-drop now.position bytes, none.full, was.position, enough)
