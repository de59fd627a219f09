-- Errors as C structs. docs/ERRORS-AND-FEATURES.md has the table of their numbers.
use Rattle.std.specs.Prelude.{ℕ, ◌+◌, ◌*◌, if◌then◌else◌, Result, Ok, Err}
use Rattle.wasm_operators.specs.below.declared.error.Error.{Error}
use Rattle.wasm_operators.specs.below.declared.message.Message.{Message}
use Rattle.wasm_operators.specs.below.declared.message.Message.TheVariants as message
use Rattle.wasm_operators.specs.below.declared.message.FrameName.{FrameName}
use Rattle.wasm_operators.specs.below.declared.message.FrameName.TheVariants as frame_name
use Rattle.wasm_operators.specs.below.declared.message.InstructionName.{InstructionName}
use Rattle.wasm_operators.specs.below.declared.message.InstructionName.TheVariants as instruction_name
use Rattle.wasm_operators.specs.below.declared.message.LeadingByteName.{LeadingByteName}
use Rattle.wasm_operators.specs.below.declared.message.LeadingByteName.TheVariants as leading_name
use Rattle.wasm_operators.specs.below.declared.malformed.Malformed.{Malformed}
use Rattle.wasm_operators.specs.below.declared.malformed.Malformed.TheVariants as malformed
use Rattle.wasm_operators.specs.below.declared.message.NumberName.{NumberName}
use Rattle.wasm_operators.specs.below.declared.message.NumberName.TheVariants as number_name
use Rattle.wasm_operators.specs.below.declared.message.SizeName.{SizeName}
use Rattle.wasm_operators.specs.below.declared.message.SizeName.TheVariants as size_name
use Rattle.wasm_operators.specs.below.declared.message.TypeName.{TypeName}
use Rattle.wasm_operators.specs.below.declared.message.TypeName.TheVariants as type_name
use Rattle.wasm_operators.specs.below.Refusal.{number_of}
use Rattle.wasm_c.specs.declared.refusal.WasmRefusal.{WasmRefusal}

-- The numbers of the names in texts.
abbrev pub instruction_number : InstructionName → ℕ
instruction_number instruction_name.Else = 0
instruction_number instruction_name.Try = 1
instruction_number instruction_name.Catch = 2
instruction_number instruction_name.CatchAll = 3
instruction_number instruction_name.Delegate = 4

abbrev pub frame_number : FrameName → ℕ
frame_number frame_name.If = 0
frame_number frame_name.LegacyTry = 1

abbrev pub number_name_number : NumberName → ℕ
number_name_number number_name.VarU32 = 0
number_name_number number_name.VarU64 = 1
number_name_number number_name.VarI32 = 2
number_name_number number_name.VarS33 = 3
number_name_number number_name.VarI64 = 4

abbrev pub size_number : SizeName → ℕ
size_number size_name.BrTable = 0
size_number size_name.SelectTypes = 1
size_number size_name.Catches = 2
size_number size_name.ResumeTable = 3
size_number size_name.FunctionParams = 4
size_number size_name.FunctionReturns = 5
size_number size_name.StructFields = 6
size_number size_name.SupertypeIndices = 7
size_number size_name.RecGroupTypes = 8

abbrev pub leading_number : LeadingByteName → ℕ
leading_number leading_name.Catch = 0
leading_number leading_name.OnClause = 1
leading_number leading_name.Type = 2
leading_number leading_name.ExternalKind = 3

abbrev pub type_number : TypeName → ℕ
type_number type_name.ValueType = 0
type_number type_name.ReferenceType = 1
type_number type_name.HeapType = 2

abbrev pub malformed_number : Malformed → ℕ
malformed_number malformed.Utf8 = 0
malformed_number malformed.StringSize = 1
malformed_number malformed.FieldMutability = 2
malformed_number malformed.ContinuationType = 3
malformed_number malformed.TypeIndex = 4
malformed_number malformed.TableEncoding = 5
malformed_number malformed.TableFlags = 6
malformed_number malformed.MemoryFlags = 7
malformed_number malformed.PageSize = 8
malformed_number malformed.GlobalFlags = 9
malformed_number malformed.TagAttributes = 10
malformed_number malformed.ElementFlags = 11
malformed_number malformed.ElementKind = 12
malformed_number malformed.DataFlags = 13
malformed_number malformed.SectionId = 14
malformed_number malformed.SecondModule = 15
malformed_number malformed.SectionSize = 16
malformed_number malformed.SectionOrder = 17
malformed_number malformed.StartContent = 18
malformed_number malformed.DataCountContent = 19
malformed_number malformed.CodeContent = 20
malformed_number malformed.NameContent = 21
malformed_number malformed.FunctionCounts = 22
malformed_number malformed.NoCode = 23
malformed_number malformed.NoFunctions = 24
malformed_number malformed.DataCounts = 25
malformed_number malformed.NoData = 26

-- The number of the name in a message's text, which also tells messages of one number apart.
abbrev pub reported_name : Message → ℕ
reported_name (message.FeatureRequired name) = instruction_number name
reported_name (message.IntegerTooLong name) = number_name_number name
reported_name (message.IntegerTooLarge name) = number_name_number name + 16
reported_name (message.SizeOutOfBounds name) = size_number name
reported_name (message.WrongFrame name frame) = instruction_number name + 16 * frame_number frame
reported_name (message.UnknownSubopcode prefix code) = prefix
reported_name (message.InvalidOrdering byte hex) = if hex then 1 else 0
reported_name (message.InvalidLeadingByte byte name) = leading_number name
reported_name (message.InvalidType name) = type_number name
reported_name (message.Malformed what) = malformed_number what
reported_name _ = 0

-- The byte, code or flags in a message's text.
abbrev pub reported_value : Message → ℕ
reported_value (message.IllegalOpcode code) = code
reported_value (message.UnknownSubopcode prefix code) = code
reported_value (message.InvalidOrdering byte hex) = byte
reported_value (message.InvalidCastFlags flags) = flags
reported_value (message.InvalidLeadingByte byte name) = byte
reported_value (message.BadMagic word) = word
reported_value (message.UnknownVersion version) = version
reported_value _ = 0

-- The C struct with this offset, error number, name's number and value.
abbrev pub reported : ℕ → ℕ → ℕ → ℕ → WasmRefusal
reported offset number name value = record { offset = offset; number = number; name = name; value = value; reserved = 0 }

-- The C struct of an error.
abbrev pub refusal_of : Error → WasmRefusal
refusal_of e = reported e.offset (number_of e.message) (reported_name e.message) (reported_value e.message)

-- The value for no error, at this offset.
abbrev pub no_refusal : ℕ → WasmRefusal
no_refusal offset = reported offset 0 0 0

-- An error in the arguments, at this offset.
abbrev pub misuse : ℕ → ℕ → WasmRefusal
misuse number offset = reported offset number 0 0

-- How reading ended; without an error, at this offset.
abbrev pub refusal_at : {X : Type 0} → Result X Error → ℕ → WasmRefusal
refusal_at (Ok x) offset = no_refusal offset
refusal_at (Err e) offset = refusal_of e
