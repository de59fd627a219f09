-- The numbers of an error determine its message.
use Rattle.std.proofs.Common.{◌≡◌, ◌+◌, ◌*◌, Some, true, false, refl, ap, ◌∙◌}
use Rattle.std.specs.Option.{option_map}
use Rattle.wasm_operators.specs.below.declared.error.Error.{Error}
use Rattle.wasm_operators.specs.below.declared.message.Message.{Message}
use Rattle.wasm_operators.specs.below.declared.message.Message.TheVariants as message
use Rattle.wasm_operators.specs.below.declared.message.FrameName.{FrameName}
use Rattle.wasm_operators.specs.below.declared.message.FrameName.TheVariants as frame_name
use Rattle.wasm_operators.specs.below.declared.message.InstructionName.{InstructionName}
use Rattle.wasm_operators.specs.below.declared.message.InstructionName.TheVariants as instruction_name
use Rattle.wasm_operators.specs.below.declared.message.LeadingByteName.{LeadingByteName}
use Rattle.wasm_operators.specs.below.declared.message.LeadingByteName.TheVariants as leading_name
use Rattle.wasm_operators.specs.below.declared.malformed.Malformed.{Malformed}
use Rattle.wasm_operators.specs.below.declared.malformed.Malformed.TheVariants as malformed
use Rattle.wasm_operators.specs.below.declared.message.NumberName.{NumberName}
use Rattle.wasm_operators.specs.below.declared.message.NumberName.TheVariants as number_name
use Rattle.wasm_operators.specs.below.declared.message.SizeName.{SizeName}
use Rattle.wasm_operators.specs.below.declared.message.SizeName.TheVariants as size_name
use Rattle.wasm_operators.specs.below.declared.message.TypeName.{TypeName}
use Rattle.wasm_operators.specs.below.declared.message.TypeName.TheVariants as type_name
use Rattle.wasm_operators.specs.below.Refusal.{number_of}
use Rattle.wasm_c.specs.declared.refusal.WasmRefusal.{WasmRefusal}
use Rattle.wasm_c.specs.Refused.{refusal_of, reported_name, reported_value, instruction_number, frame_number, number_name_number, size_number, leading_number, type_number, malformed_number}
use Rattle.wasm_operators.specs.below.MessageText.{message_text}
use Rattle.wasm_c.specs.Texts.{instruction_numbered, frames_numbered, integer_numbered, size_numbered, leading_numbered, type_numbered, malformed_numbered, message_numbered, text_of_refusal}

instruction_again : (name : InstructionName) → instruction_numbered (instruction_number name) ≡ Some name
instruction_again instruction_name.Else = refl
instruction_again instruction_name.Try = refl
instruction_again instruction_name.Catch = refl
instruction_again instruction_name.CatchAll = refl
instruction_again instruction_name.Delegate = refl

size_again : (name : SizeName) → size_numbered (size_number name) ≡ Some name
size_again size_name.BrTable = refl
size_again size_name.SelectTypes = refl
size_again size_name.Catches = refl
size_again size_name.ResumeTable = refl
size_again size_name.FunctionParams = refl
size_again size_name.FunctionReturns = refl
size_again size_name.StructFields = refl
size_again size_name.SupertypeIndices = refl
size_again size_name.RecGroupTypes = refl

leading_again : (name : LeadingByteName) → leading_numbered (leading_number name) ≡ Some name
leading_again leading_name.Catch = refl
leading_again leading_name.OnClause = refl
leading_again leading_name.Type = refl
leading_again leading_name.ExternalKind = refl

type_again : (name : TypeName) → type_numbered (type_number name) ≡ Some name
type_again type_name.ValueType = refl
type_again type_name.ReferenceType = refl
type_again type_name.HeapType = refl

malformed_again : (what : Malformed) → malformed_numbered (malformed_number what) ≡ Some what
malformed_again malformed.Utf8 = refl
malformed_again malformed.StringSize = refl
malformed_again malformed.FieldMutability = refl
malformed_again malformed.ContinuationType = refl
malformed_again malformed.TypeIndex = refl
malformed_again malformed.TableEncoding = refl
malformed_again malformed.TableFlags = refl
malformed_again malformed.MemoryFlags = refl
malformed_again malformed.PageSize = refl
malformed_again malformed.GlobalFlags = refl
malformed_again malformed.TagAttributes = refl
malformed_again malformed.ElementFlags = refl
malformed_again malformed.ElementKind = refl
malformed_again malformed.DataFlags = refl
malformed_again malformed.SectionId = refl
malformed_again malformed.SecondModule = refl
malformed_again malformed.SectionSize = refl
malformed_again malformed.SectionOrder = refl
malformed_again malformed.StartContent = refl
malformed_again malformed.DataCountContent = refl
malformed_again malformed.CodeContent = refl
malformed_again malformed.NameContent = refl
malformed_again malformed.FunctionCounts = refl
malformed_again malformed.NoCode = refl
malformed_again malformed.NoFunctions = refl
malformed_again malformed.DataCounts = refl
malformed_again malformed.NoData = refl

long_again : (name : NumberName) → integer_numbered (number_name_number name) ≡ Some (message.IntegerTooLong name)
long_again number_name.VarU32 = refl
long_again number_name.VarU64 = refl
long_again number_name.VarI32 = refl
long_again number_name.VarS33 = refl
long_again number_name.VarI64 = refl

large_again : (name : NumberName) → integer_numbered (number_name_number name + 16) ≡ Some (message.IntegerTooLarge name)
large_again number_name.VarU32 = refl
large_again number_name.VarU64 = refl
large_again number_name.VarI32 = refl
large_again number_name.VarS33 = refl
large_again number_name.VarI64 = refl

frame_again : (name : InstructionName) (frame : FrameName) →
    frames_numbered (instruction_number name + 16 * frame_number frame) ≡ Some (message.WrongFrame name frame)
frame_again instruction_name.Else frame_name.If = refl
frame_again instruction_name.Try frame_name.If = refl
frame_again instruction_name.Catch frame_name.If = refl
frame_again instruction_name.CatchAll frame_name.If = refl
frame_again instruction_name.Delegate frame_name.If = refl
frame_again instruction_name.Else frame_name.LegacyTry = refl
frame_again instruction_name.Try frame_name.LegacyTry = refl
frame_again instruction_name.Catch frame_name.LegacyTry = refl
frame_again instruction_name.CatchAll frame_name.LegacyTry = refl
frame_again instruction_name.Delegate frame_name.LegacyTry = refl

message_again : (m : Message) → message_numbered (number_of m) (reported_name m) (reported_value m) ≡ Some m
message_again message.EndOfData = refl
message_again (message.FeatureRequired name) = ap (option_map message.FeatureRequired) (instruction_again name)
message_again message.OutOfMemory = refl
message_again (message.IntegerTooLong name) = long_again name
message_again (message.IntegerTooLarge name) = large_again name
message_again (message.SizeOutOfBounds name) = ap (option_map message.SizeOutOfBounds) (size_again name)
message_again message.InvalidFunctionType = refl
message_again (message.WrongFrame name frame) = frame_again name frame
message_again message.OperatorsRemaining = refl
message_again message.FramesRemain = refl
message_again message.FramesRemainConst = refl
message_again message.UnexpectedData = refl
message_again (message.IllegalOpcode code) = refl
message_again (message.UnknownSubopcode prefix code) = refl
message_again message.UnexpectedSimd = refl
message_again message.ZeroByteExpected = refl
message_again message.NonzeroAfterFence = refl
message_again message.MemoryAndArray = refl
message_again message.OrderingOnPlain = refl
message_again (message.InvalidOrdering byte true) = refl
message_again (message.InvalidOrdering byte false) = refl
message_again message.ReservedFlags = refl
message_again (message.InvalidCastFlags flags) = refl
message_again (message.InvalidLeadingByte byte name) = ap (option_map (λ n. message.InvalidLeadingByte byte n)) (leading_again name)
message_again message.TooManyLocals = refl
message_again (message.InvalidType name) = ap (option_map message.InvalidType) (type_again name)
message_again message.DataAfterSection = refl
message_again (message.Malformed what) = ap (option_map message.Malformed) (malformed_again what)
message_again (message.BadMagic word) = refl
message_again (message.UnknownVersion version) = refl

-- The text of the C struct of an error is that of its message.
pub text_again : (e : Error) (r : WasmRefusal) → r ≡ refusal_of e → text_of_refusal r ≡ Some (message_text e.message)
text_again e r is = ap text_of_refusal is ∙ ap (option_map message_text) (message_again e.message)
