-- docs/ERRORS-AND-FEATURES.md has the table.
use Rattle.std.specs.Prelude.{◌≡◌, ◌==◌, ℕ, ◌+◌, ◌-◌, ◌/◌, ◌%◌, List, ◌++◌, length, true, false, if◌then◌else◌, nat_lt, Option, Some, None}
use Rattle.std.specs.Option.{option_map, option_and_then}
use Rattle.wasm_operators.specs.below.declared.message.Message.{Message}
use Rattle.wasm_operators.specs.below.declared.message.Message.TheVariants as message
use Rattle.wasm_operators.specs.below.declared.message.FrameName.{FrameName}
use Rattle.wasm_operators.specs.below.declared.message.FrameName.TheVariants as frame_name
use Rattle.wasm_operators.specs.below.declared.message.InstructionName.{InstructionName}
use Rattle.wasm_operators.specs.below.declared.message.InstructionName.TheVariants as instruction_name
use Rattle.wasm_operators.specs.below.declared.message.LeadingByteName.{LeadingByteName}
use Rattle.wasm_operators.specs.below.declared.message.LeadingByteName.TheVariants as leading_name
use Rattle.wasm_operators.specs.below.declared.malformed.Malformed.{Malformed}
use Rattle.wasm_operators.specs.below.declared.malformed.Malformed.TheVariants as malformed
use Rattle.wasm_operators.specs.below.declared.message.NumberName.{NumberName}
use Rattle.wasm_operators.specs.below.declared.message.NumberName.TheVariants as number_name
use Rattle.wasm_operators.specs.below.declared.message.SizeName.{SizeName}
use Rattle.wasm_operators.specs.below.declared.message.SizeName.TheVariants as size_name
use Rattle.wasm_operators.specs.below.declared.message.TypeName.{TypeName}
use Rattle.wasm_operators.specs.below.declared.message.TypeName.TheVariants as type_name
use Rattle.wasm_operators.specs.below.MessageText.{message_text}
use Rattle.wasm_view.specs.Lists.{written}
use Rattle.wasm_c.specs.declared.refusal.WasmRefusal.{WasmRefusal}

-- The names in messages, by number.
abbrev pub instruction_numbered : ℕ → Option InstructionName
instruction_numbered n =
    if n == 0 then Some instruction_name.Else else (
    if n == 1 then Some instruction_name.Try else (
    if n == 2 then Some instruction_name.Catch else (
    if n == 3 then Some instruction_name.CatchAll else (
    if n == 4 then Some instruction_name.Delegate else None))))

abbrev pub frame_numbered : ℕ → Option FrameName
frame_numbered n = if n == 0 then Some frame_name.If else (if n == 1 then Some frame_name.LegacyTry else None)

abbrev pub number_name_numbered : ℕ → Option NumberName
number_name_numbered n =
    if n == 0 then Some number_name.VarU32 else (
    if n == 1 then Some number_name.VarU64 else (
    if n == 2 then Some number_name.VarI32 else (
    if n == 3 then Some number_name.VarS33 else (
    if n == 4 then Some number_name.VarI64 else None))))

abbrev pub size_numbered : ℕ → Option SizeName
size_numbered n =
    if n == 0 then Some size_name.BrTable else (
    if n == 1 then Some size_name.SelectTypes else (
    if n == 2 then Some size_name.Catches else (
    if n == 3 then Some size_name.ResumeTable else (
    if n == 4 then Some size_name.FunctionParams else (
    if n == 5 then Some size_name.FunctionReturns else (
    if n == 6 then Some size_name.StructFields else (
    if n == 7 then Some size_name.SupertypeIndices else (
    if n == 8 then Some size_name.RecGroupTypes else None))))))))

abbrev pub leading_numbered : ℕ → Option LeadingByteName
leading_numbered n =
    if n == 0 then Some leading_name.Catch else (
    if n == 1 then Some leading_name.OnClause else (
    if n == 2 then Some leading_name.Type else (
    if n == 3 then Some leading_name.ExternalKind else None)))

abbrev pub type_numbered : ℕ → Option TypeName
type_numbered n =
    if n == 0 then Some type_name.ValueType else (
    if n == 1 then Some type_name.ReferenceType else (
    if n == 2 then Some type_name.HeapType else None))

-- The malformed part with this number.
abbrev pub malformed_numbered : ℕ → Option Malformed
malformed_numbered n =
    if n == 0 then Some malformed.Utf8 else (
    if n == 1 then Some malformed.StringSize else (
    if n == 2 then Some malformed.FieldMutability else (
    if n == 3 then Some malformed.ContinuationType else (
    if n == 4 then Some malformed.TypeIndex else (
    if n == 5 then Some malformed.TableEncoding else (
    if n == 6 then Some malformed.TableFlags else (
    if n == 7 then Some malformed.MemoryFlags else (
    if n == 8 then Some malformed.PageSize else (
    if n == 9 then Some malformed.GlobalFlags else (
    if n == 10 then Some malformed.TagAttributes else (
    if n == 11 then Some malformed.ElementFlags else (
    if n == 12 then Some malformed.ElementKind else (
    if n == 13 then Some malformed.DataFlags else (
    if n == 14 then Some malformed.SectionId else (
    if n == 15 then Some malformed.SecondModule else (
    if n == 16 then Some malformed.SectionSize else (
    if n == 17 then Some malformed.SectionOrder else (
    if n == 18 then Some malformed.StartContent else (
    if n == 19 then Some malformed.DataCountContent else (
    if n == 20 then Some malformed.CodeContent else (
    if n == 21 then Some malformed.NameContent else (
    if n == 22 then Some malformed.FunctionCounts else (
    if n == 23 then Some malformed.NoCode else (
    if n == 24 then Some malformed.NoFunctions else (
    if n == 25 then Some malformed.DataCounts else (
    if n == 26 then Some malformed.NoData else None))))))))))))))))))))))))))

-- The message for an integer that does not fit, by the number of its name: too long below 16, too large from 16 on.
abbrev pub integer_numbered : ℕ → Option Message
integer_numbered name =
    if nat_lt name 16 then option_map message.IntegerTooLong (number_name_numbered name) else option_map message.IntegerTooLarge (number_name_numbered (name - 16))

-- The message for a wrong frame; `name` is the instruction's number plus 16 times the frame's.
abbrev pub frames_numbered : ℕ → Option Message
frames_numbered name =
    option_and_then (λ instruction. option_map (λ frame. message.WrongFrame instruction frame) (frame_numbered (name / 16))) (instruction_numbered (name % 16))

abbrev pub ordering_numbered : ℕ → ℕ → Option Message
ordering_numbered name value =
    if name == 0 then Some (message.InvalidOrdering value false) else (if name == 1 then Some (message.InvalidOrdering value true) else None)

abbrev pub bare_numbered : ℕ → Option Message
bare_numbered number =
    if number == 1 then Some message.EndOfData else (
    if number == 3 then Some message.OutOfMemory else (
    if number == 6 then Some message.InvalidFunctionType else (
    if number == 8 then Some message.OperatorsRemaining else (
    if number == 9 then Some message.FramesRemain else (
    if number == 10 then Some message.FramesRemainConst else (
    if number == 11 then Some message.UnexpectedData else (
    if number == 14 then Some message.UnexpectedSimd else (
    if number == 15 then Some message.ZeroByteExpected else (
    if number == 16 then Some message.NonzeroAfterFence else (
    if number == 17 then Some message.MemoryAndArray else (
    if number == 18 then Some message.OrderingOnPlain else (
    if number == 20 then Some message.ReservedFlags else (
    if number == 23 then Some message.TooManyLocals else (
    if number == 25 then Some message.DataAfterSection else None))))))))))))))

-- The message with this error number, the number of the name in its text (`name`), and the `value` in its text. What its text lacks is ignored. `None` if no
-- message has these numbers.
abbrev pub message_numbered : ℕ → ℕ → ℕ → Option Message
message_numbered number name value =
    if number == 2 then option_map message.FeatureRequired (instruction_numbered name) else (
    if number == 4 then integer_numbered name else (
    if number == 5 then option_map message.SizeOutOfBounds (size_numbered name) else (
    if number == 7 then frames_numbered name else (
    if number == 12 then Some (message.IllegalOpcode value) else (
    if number == 13 then Some (message.UnknownSubopcode name value) else (
    if number == 19 then ordering_numbered name value else (
    if number == 21 then Some (message.InvalidCastFlags value) else (
    if number == 22 then option_map (λ n. message.InvalidLeadingByte value n) (leading_numbered name) else (
    if number == 24 then option_map message.InvalidType (type_numbered name) else (
    if number == 26 then option_map message.Malformed (malformed_numbered name) else (
    if number == 27 then Some (message.BadMagic value) else (
    if number == 28 then Some (message.UnknownVersion value) else bare_numbered number))))))))))))

-- The text of the error in a C struct, if one has its numbers.
abbrev pub text_of_refusal : WasmRefusal → Option (List ℕ)
text_of_refusal r = option_map message_text (message_numbered r.number r.name r.value)

-- The array starts with as much of the text as fits, and the result is the text's length. Without a text nothing changes, and the result is 0.
abbrev pub ReturnsText : Option (List ℕ) → List ℕ → ℕ → List ℕ → Type 0
ReturnsText None old result new = (result ≡ 0) × (new ≡ old)
ReturnsText (Some text) old result new = (result ≡ length text) × (new ≡ written text old)

-- A call that writes the text `piece` from index `at` of an array on, as much as fits, and returns `at` plus the length of `piece`.
abbrev pub PutsPiece : List ℕ → ℕ → List ℕ → ℕ → List ℕ → Type 0
PutsPiece piece at old result new =
    (result ≡ at + length piece) × ((before room : List ℕ) → at ≡ length before → old ≡ written before room → new ≡ written (before ++ piece) room)
