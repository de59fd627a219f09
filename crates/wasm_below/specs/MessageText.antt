-- The texts of wasmparser 0.263.0. docs/ERRORS-AND-FEATURES.md has the table.
use Rattle.std.specs.Prelude.{ℕ, ◌/◌, ◌%◌, ◌+◌, List, [], ◌∷◌, ◌++◌, map, true, false, codes, nat_lt, if◌then◌else◌}
use Rattle.std.specs.Fmt.{digits, decimal}
use Rattle.wasm_below.specs.declared.message.FrameName.{FrameName}
use Rattle.wasm_below.specs.declared.message.FrameName.TheVariants as frame_name
use Rattle.wasm_below.specs.declared.message.InstructionName.{InstructionName}
use Rattle.wasm_below.specs.declared.message.InstructionName.TheVariants as instruction_name
use Rattle.wasm_below.specs.declared.message.LeadingByteName.{LeadingByteName}
use Rattle.wasm_below.specs.declared.message.LeadingByteName.TheVariants as leading_name
use Rattle.wasm_below.specs.declared.malformed.Malformed.{Malformed}
use Rattle.wasm_below.specs.declared.malformed.Malformed.TheVariants as malformed
use Rattle.wasm_below.specs.declared.message.NumberName.{NumberName}
use Rattle.wasm_below.specs.declared.message.NumberName.TheVariants as number_name
use Rattle.wasm_below.specs.declared.message.SizeName.{SizeName}
use Rattle.wasm_below.specs.declared.message.SizeName.TheVariants as size_name
use Rattle.wasm_below.specs.declared.message.TypeName.{TypeName}
use Rattle.wasm_below.specs.declared.message.TypeName.TheVariants as type_name
use Rattle.wasm_below.specs.declared.message.Message.{Message}
use Rattle.wasm_below.specs.declared.message.Message.TheVariants as message
use Rattle.wasm_below.specs.declared.error.Error.{Error}

-- The texts of names in messages.
abbrev pub number_name_text : NumberName → List ℕ
number_name_text number_name.VarU32 = codes "var_u32"
number_name_text number_name.VarU64 = codes "var_u64"
number_name_text number_name.VarI32 = codes "var_i32"
number_name_text number_name.VarS33 = codes "var_s33"
number_name_text number_name.VarI64 = codes "var_i64"

abbrev pub size_name_text : SizeName → List ℕ
size_name_text size_name.BrTable = codes "br_table"
size_name_text size_name.SelectTypes = codes "select types"
size_name_text size_name.Catches = codes "catches"
size_name_text size_name.ResumeTable = codes "resume table"
size_name_text size_name.FunctionParams = codes "function params"
size_name_text size_name.FunctionReturns = codes "function returns"
size_name_text size_name.StructFields = codes "struct fields"
size_name_text size_name.SupertypeIndices = codes "supertype idxs"
size_name_text size_name.RecGroupTypes = codes "rec group types"

abbrev pub instruction_name_text : InstructionName → List ℕ
instruction_name_text instruction_name.Else = codes "else"
instruction_name_text instruction_name.Try = codes "try"
instruction_name_text instruction_name.Catch = codes "catch"
instruction_name_text instruction_name.CatchAll = codes "catch_all"
instruction_name_text instruction_name.Delegate = codes "delegate"

abbrev pub leading_byte_name_text : LeadingByteName → List ℕ
leading_byte_name_text leading_name.Catch = codes "catch"
leading_byte_name_text leading_name.OnClause = codes "on clause"
leading_byte_name_text leading_name.Type = codes "type"
leading_byte_name_text leading_name.ExternalKind = codes "external kind"

abbrev pub type_name_text : TypeName → List ℕ
type_name_text type_name.ValueType = codes "value type"
type_name_text type_name.ReferenceType = codes "reference type"
type_name_text type_name.HeapType = codes "heap type"

abbrev pub frame_name_text : FrameName → List ℕ
frame_name_text frame_name.If = codes "If"
frame_name_text frame_name.LegacyTry = codes "LegacyTry"

-- The text of a malformed part.
abbrev pub malformed_text : Malformed → List ℕ
malformed_text malformed.Utf8 = codes "malformed UTF-8 encoding"
malformed_text malformed.StringSize = codes "string size out of bounds"
malformed_text malformed.FieldMutability = codes "malformed mutability byte for field type"
malformed_text malformed.ContinuationType = codes "invalid continuation type"
malformed_text malformed.TypeIndex = codes "type index greater than implementation limits"
malformed_text malformed.TableEncoding = codes "invalid table encoding"
malformed_text malformed.TableFlags = codes "invalid table resizable limits flags"
malformed_text malformed.MemoryFlags = codes "invalid memory limits flags"
malformed_text malformed.PageSize = codes "invalid custom page size"
malformed_text malformed.GlobalFlags = codes "malformed global flags"
malformed_text malformed.TagAttributes = codes "invalid tag attributes"
malformed_text malformed.ElementFlags = codes "invalid flags byte in element segment"
malformed_text malformed.ElementKind = codes "only the function external type is supported in elem segment"
malformed_text malformed.DataFlags = codes "invalid flags byte in data segment"
malformed_text malformed.SectionId = codes "malformed section id"
malformed_text malformed.SecondModule = codes "expected section, got wasm magic number"
malformed_text malformed.SectionSize = codes "section too large"
malformed_text malformed.SectionOrder = codes "section out of order"
malformed_text malformed.StartContent = codes "unexpected content in the start section"
malformed_text malformed.DataCountContent = codes "unexpected content in the data count section"
malformed_text malformed.CodeContent = codes "trailing bytes at end of section"
malformed_text malformed.NameContent = codes "trailing data at the end of a name"
malformed_text malformed.FunctionCounts = codes "function and code section have inconsistent lengths"
malformed_text malformed.NoCode = codes "function section has non-zero count but code section is absent"
malformed_text malformed.NoFunctions = codes "function section is absent but code section has non-zero count"
malformed_text malformed.DataCounts = codes "data count and data section have inconsistent lengths"
malformed_text malformed.NoData = codes "data count is non-zero but data section is absent"

-- The lowest eight binary digits of a number, the highest first.
abbrev pub eight_digits : ℕ → List ℕ
eight_digits n = map (λ place. 48 + (n / place) % 2) (128 ∷ 64 ∷ 32 ∷ 16 ∷ 8 ∷ 4 ∷ 2 ∷ []) ++ (48 + n % 2) ∷ []

-- A number in lower-case hexadecimal.
abbrev pub hexadecimal : ℕ → List ℕ
hexadecimal n = digits 16 false n

-- A space for each digit that the number has fewer than eight in hexadecimal.
abbrev pub hexadecimal_indent : ℕ → List ℕ
hexadecimal_indent n =
    if nat_lt n 0x10 then codes "       " else (
    if nat_lt n 0x100 then codes "      " else (
    if nat_lt n 0x1000 then codes "     " else (
    if nat_lt n 0x10000 then codes "    " else (
    if nat_lt n 0x100000 then codes "   " else (
    if nat_lt n 0x1000000 then codes "  " else (
    if nat_lt n 0x10000000 then codes " " else []))))))

-- A module's first four bytes, as a little-endian number, where `\0asm` should be.
abbrev pub magic_text : ℕ → List ℕ
magic_text word =
    codes "magic header not detected: bad magic number - expected=[\n    0x0,\n    0x61,\n    0x73,\n    0x6d,\n] actual=[\n    0x" ++ (hexadecimal (word % 256) ++
    (codes ",\n    0x" ++ (hexadecimal ((word / 256) % 256) ++ (codes ",\n    0x" ++ (hexadecimal ((word / 65536) % 256) ++
    (codes ",\n    0x" ++ (hexadecimal (word / 16777216) ++ codes ",\n]")))))))

-- The text of a message.
abbrev pub message_text : Message → List ℕ
message_text message.EndOfData = codes "unexpected end-of-file"
message_text (message.FeatureRequired name) = codes "legacy_exceptions feature required for " ++ (instruction_name_text name ++ codes " instruction")
message_text message.OutOfMemory = codes "out of memory"
message_text (message.IntegerTooLong name) = codes "invalid " ++ (number_name_text name ++ codes ": integer representation too long")
message_text (message.IntegerTooLarge name) = codes "invalid " ++ (number_name_text name ++ codes ": integer too large")
message_text (message.SizeOutOfBounds name) = size_name_text name ++ codes " size is out of bounds"
message_text message.InvalidFunctionType = codes "invalid function type"
message_text (message.WrongFrame name frame) =
    codes "`" ++ (instruction_name_text name ++ (codes "` found outside `" ++ (frame_name_text frame ++ codes "` block")))
message_text message.OperatorsRemaining = codes "operators remaining after end of function body or expression"
message_text message.FramesRemain = codes "control frames remain at end of function body or expression"
message_text message.FramesRemainConst = codes "control frames remain at end of expression"
message_text message.UnexpectedData = codes "unexpected data at the end of operators"
message_text (message.IllegalOpcode code) = codes "illegal opcode: 0x" ++ hexadecimal code
message_text (message.UnknownSubopcode prefix code) = codes "unknown 0x" ++ (hexadecimal prefix ++ (codes " subopcode: 0x" ++ hexadecimal code))
message_text message.UnexpectedSimd = codes "unexpected SIMD opcode: 0xfd"
message_text message.ZeroByteExpected = codes "zero byte expected"
message_text message.NonzeroAfterFence = codes "nonzero byte after `atomic.fence`"
message_text message.MemoryAndArray = codes "cannot specify both memory and array index"
message_text message.OrderingOnPlain = codes "cannot specify atomic ordering on non-atomic instruction"
message_text (message.InvalidOrdering byte true) = codes "invalid atomic consistency ordering 0x" ++ hexadecimal byte
message_text (message.InvalidOrdering byte false) = codes "invalid atomic consistency ordering " ++ decimal byte
message_text message.ReservedFlags = codes "malformed memop: reserved flags bits set"
message_text (message.InvalidCastFlags flags) = codes "invalid cast flags: " ++ eight_digits flags
message_text (message.InvalidLeadingByte byte name) =
    codes "invalid leading byte (0x" ++ (hexadecimal byte ++ (codes ") for " ++ leading_byte_name_text name))
message_text message.TooManyLocals = codes "too many locals"
message_text (message.InvalidType name) = codes "invalid " ++ type_name_text name
message_text message.DataAfterSection = codes "unexpected data at the end of the section"
message_text (message.Malformed what) = malformed_text what
message_text (message.BadMagic word) = magic_text word
message_text (message.UnknownVersion version) = codes "unknown binary version: " ++ (hexadecimal_indent version ++ (codes "0x" ++ hexadecimal version))

-- The text of an error: of its message, and the offset.
abbrev pub error_text : Error → List ℕ
error_text e = message_text e.message ++ (codes " (at offset 0x" ++ (hexadecimal e.offset ++ codes ")"))
