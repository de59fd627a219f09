-- Specification: Text Format, Instructions; Binary Format, Instructions.
use Rattle.std.specs.Prelude.{◌≡◌, ◌==◌, ℕ, ◌<◌, ◌≤◌, List, [], ◌∷◌, length, Err, ◌⊎◌, if◌then◌else◌}
use Rattle.wasm_operators.specs.below.declared.error.Error.{Error}
use Rattle.wasm_operators.specs.below.declared.message.Message.TheVariants as message
use Rattle.wasm_operators.specs.below.Source.{Reader, rest}
use Rattle.wasm_operators.specs.grammar.declared.frame_kind.FrameKind.{FrameKind}
use Rattle.wasm_operators.specs.grammar.declared.frame_kind.FrameKind.TheVariants as frame
use Rattle.wasm_operators.specs.instr.declared.operator.Operator.{Operator}
use Rattle.wasm_operators.specs.opcodes.Allowed.{EncodesAllowed}
use Rattle.wasm_operators.specs.opcodes.Decoding.{DecodesOperator}
use Rattle.wasm_operators.specs.opcodes.OperatorFaults.{OperatorFault}
use Rattle.wasm_view.specs.Lists.{written}
use Rattle.wasm_c.specs.declared.refusal.WasmRefusal.{WasmRefusal}
use Rattle.wasm_c.specs.Members.{AtOffset, OccursThere, Unchanged}
use Rattle.wasm_c.specs.Refused.{no_refusal, refusal_of, misuse}

-- A frame that allows the operator with this opcode, if one does. A block allows all but `else`, `catch`, `catch_all` and `delegate`.
abbrev pub frame_for : List ℕ → FrameKind
frame_for [] = frame.Block
frame_for (byte ∷ bytes) =
    if byte == 0x05 then frame.If else (
    if byte == 0x07 then frame.LegacyTry else (
    if byte == 0x18 then frame.LegacyTry else (
    if byte == 0x19 then frame.LegacyTry else frame.Block)))

-- The error of a failed allocation, at this offset.
abbrev pub out_of_memory : ℕ → WasmRefusal
out_of_memory at = refusal_of (record { message = message.OutOfMemory; offset = at })

-- The array starts with the text if it fits. Otherwise it is unchanged: misuse. `count` is the text's length.
abbrev pub PlacesText : List ℕ → ℕ → WasmRefusal → ℕ → List ℕ → List ℕ → Type 0
PlacesText text at r count old new = (count ≡ length text) ×
    (((length text ≤ length old) × (r ≡ no_refusal at) × (new ≡ written text old)) ⊎
    ((length old < length text) × (r ≡ misuse 102 at) × (new ≡ old)))

-- Reading an operator here fails with this error.
abbrev pub RefusesTextName : WasmRefusal → Reader → Type 0
RefusesTextName r input =
    (e : Error) × (r ≡ refusal_of e) × DecodesOperator (EncodesAllowed input.features (frame_for (rest input))) (OperatorFault input.features (frame_for (rest input))) (Err e) input input

-- As `RefusesTextName`; or allocation for the operator's text fails, which is reported at `at`.
abbrev pub RefusesText : ℕ → WasmRefusal → Reader → Type 0
RefusesText at r input = RefusesTextName r input ⊎ ((op : Operator) × OccursThere input op × (r ≡ out_of_memory at))

-- The text of the operator here is written. If there is none, nothing changes.
abbrev pub FindsText : (Operator → List ℕ) → (WasmRefusal → Reader → Type 0) → WasmRefusal → Reader → ℕ → ℕ → ℕ → List ℕ → List ℕ → Type 0
FindsText text_of Refuses r input at count_old count_new old new =
    ((op : Operator) × OccursThere input op × PlacesText (text_of op) at r count_new old new) ⊎ (Refuses r input × Unchanged count_old count_new old new)

-- A call for the text of the operator at an offset.
abbrev pub ReturnsTextAt : (Operator → List ℕ) → (WasmRefusal → Reader → Type 0) → WasmRefusal → List ℕ → ℕ → ℕ → ℕ → ℕ → ℕ → List ℕ → List ℕ → Type 0
ReturnsTextAt text_of Refuses r bytes offset features at count_old count_new old new =
    AtOffset (λ number place. (r ≡ misuse number place) × Unchanged count_old count_new old new)
    (λ input. FindsText text_of Refuses r input at count_old count_new old new) bytes offset features at
