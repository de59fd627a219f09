-- Specification: Binary Format, Values; Types; Instructions, Control Instructions and Expressions; Modules, Code Section.
use Rattle.std.specs.Prelude.{◌≡◌, ℕ, ◌+◌, ◌≤◌, ◌<◌, ◌⊎◌, List, [], ◌∷◌, length, ℤ, Some, Result, Ok, Err, slice_get}
use Rattle.std.specs.Int.{w32, w64, cast_unsigned}
use Rattle.wasm_operators.specs.below.declared.error.Error.{Error}
use Rattle.wasm_operators.specs.below.declared.message.Message.{Message}
use Rattle.wasm_operators.specs.below.declared.message.Message.TheVariants as message
use Rattle.wasm_operators.specs.below.declared.message.SizeName.TheVariants as size_name
use Rattle.wasm_operators.specs.below.declared.types.HeapType.{HeapType}
use Rattle.wasm_operators.specs.below.declared.types.ValType.{ValType}
use Rattle.wasm_operators.specs.below.declared.types.ValType.TheVariants as value
use Rattle.wasm_operators.specs.below.FromReader.{ReadsValue, EncodesReader, ReaderFault}
use Rattle.wasm_operators.specs.below.Number.{EncodesUnsigned, EncodesSigned, EncodesFixed, EncodesSize}
use Rattle.wasm_operators.specs.below.Reference.{Reference}
use Rattle.wasm_operators.specs.below.Source.{Reader, HasRead, Reads, IsRefusal, offset_of, IsByte, IsBlock, EndFault, EndsWithin, CountFault, U32Fault, U64Fault, I32Fault, S33Fault, I64Fault}
use Rattle.wasm_operators.specs.below.TypeEncoding.{EncodesHeapType, EncodesRefType, EncodesValType, HeapTypeFault, RefTypeFault, ValTypeFault}
use Rattle.wasm_operators.specs.imm.BlockTypeFaults.{BlockTypeFault}
use Rattle.wasm_operators.specs.imm.BlockTypes.{EncodesBlockType}
use Rattle.wasm_operators.specs.imm.HandlerFaults.{CatchFault, HandleFault}
use Rattle.wasm_operators.specs.imm.Handlers.{EncodesCatch, EncodesHandle}
use Rattle.wasm_operators.specs.imm.declared.block_type.BlockType.{BlockType}
use Rattle.wasm_operators.specs.Constant.{EncodesConstantReader}
use Rattle.wasm_operators.specs.ConstantFaults.{ConstantFault, ConstantMayAllocate}
use Rattle.wasm_operators.specs.Locals.{Declaration, RefusesLocals, ReadsPastLocals, max_locals}
use Rattle.wasm_view.specs.Members.{catch_of, handle_of}
use Rattle.wasm_view.specs.Numbers.{heap_kind, heap_index, value_kind, value_index, block_kind, block_index}
use Rattle.wasm_view.specs.declared.members.WasmHandler.{WasmHandler}
use Rattle.wasm_c.specs.declared.refusal.WasmRefusal.{WasmRefusal}
use Rattle.wasm_c.specs.declared.reader.WasmReader.{WasmReader}
use Rattle.wasm_c.specs.declared.value.WasmValue.{WasmValue}
use Rattle.wasm_c.specs.declared.value_kind.ValueKind.{ValueKind}
use Rattle.wasm_c.specs.declared.value_kind.ValueKind.TheVariants as kind
use Rattle.wasm_c.specs.Refused.{no_refusal, refusal_of, misuse}
use Rattle.wasm_c.specs.Steps.{IsReader, reader_at, reader_moved}

-- The C struct of a number.
abbrev pub number_value : ℕ → WasmValue
number_value n = record { number = n; kind = 0; index = 0 }

-- A signed number, sign-extended to 64 bits.
abbrev pub signed_value : ℤ → WasmValue
signed_value n = number_value (cast_unsigned w64 n)

abbrev pub typed_value : ℕ → ℕ → ℕ → WasmValue
typed_value n kind index = record { number = n; kind = kind; index = index }

-- The C struct of a value type.
abbrev pub of_value_type : ValType → WasmValue
of_value_type ty = typed_value 0 (value_kind ty) (value_index ty)

-- The C struct of a reference type, as a value type.
abbrev pub of_reference_type : Reference → WasmValue
of_reference_type ty = of_value_type (value.Ref ty)

-- The C struct of a heap type.
abbrev pub of_heap_type : HeapType → WasmValue
of_heap_type ty = typed_value 0 (heap_kind ty) (heap_index ty)

-- The C struct of a block type.
abbrev pub of_block_type : BlockType → WasmValue
of_block_type ty = typed_value 0 (block_kind ty) (block_index ty)

-- A declaration of locals: how many, and their type.
abbrev pub of_declaration : Declaration → WasmValue
of_declaration d = typed_value d.0 (value_kind d.1) (value_index d.1)

-- A clause: the tag is the number, and the label the index.
abbrev pub of_handler : WasmHandler → WasmValue
of_handler h = typed_value h.tag h.kind h.label

-- A value is read as a C struct. On an error of the bytes, nothing is read.
abbrev pub ReadsAs : {X : Type 0} → (List ℕ → X → Type 0) → (X → WasmValue) → (Message → Reader → ℕ → Type 0) → Result WasmValue Error → Reader → Reader → Type 0
ReadsAs {X} Encodes value Fault (Ok v) old new = (x : X) × HasRead Encodes x old new × (v ≡ value x)
ReadsAs Encodes value Fault (Err e) old new = Reads Encodes Fault (Err e) old new

-- The locals of a body are read, up to its operators.
abbrev pub ReadsLocals : Result WasmValue Error → Reader → Reader → Type 0
ReadsLocals (Ok v) old new = ReadsPastLocals (Ok new) old × (v ≡ number_value 0)
ReadsLocals (Err e) old new = (new ≡ old) × RefusesLocals e old

-- A constant expression is read; the number is its length in bytes.
abbrev pub ReadsConstant : Result WasmValue Error → Reader → Reader → Type 0
ReadsConstant (Ok v) old new =
    (c : Reader) × HasRead (EncodesConstantReader old.features) c old new × (v ≡ number_value (length c.buffer))
ReadsConstant (Err e) old new =
    ReadsValue (EncodesConstantReader old.features) ConstantFault ConstantMayAllocate (Err e) old new

-- Why a declaration of locals is not read.
abbrev pub RefusesLocal : ℕ → Error → Reader → Type 0
RefusesLocal total e old =
    (IsRefusal (EncodesUnsigned 32) e old × U32Fault e.message old e.offset) ⊎
    ((number : ℕ) × (mid : Reader) × HasRead (EncodesUnsigned 32) number old mid ×
    (((max_locals < total + number) × (e.message ≡ message.TooManyLocals) × (e.offset ≡ offset_of mid)) ⊎
    ((total + number ≤ max_locals) × IsRefusal EncodesValType e mid × ValTypeFault e.message mid e.offset)))

-- A declaration of locals is read, after declarations of `total` locals.
abbrev pub ReadsLocal : ℕ → Result WasmValue Error → Reader → Reader → Type 0
ReadsLocal total (Ok v) old new =
    (d : Declaration) × (mid : Reader) × HasRead (EncodesUnsigned 32) d.0 old mid × (total + d.0 ≤ max_locals) × HasRead EncodesValType d.1 mid new ×
    (v ≡ of_declaration d)
ReadsLocal total (Err e) old new = (new ≡ old) × RefusesLocal total e old

-- A read of a value of this kind. Of bytes, the number is how many there are; they end at the new position.
abbrev pub ReadsKind : ValueKind → ℕ → Result WasmValue Error → Reader → Reader → Type 0
ReadsKind kind.U8 argument result old new = ReadsAs IsByte number_value EndFault result old new
ReadsKind kind.U32 argument result old new = ReadsAs (EncodesFixed w32) number_value (EndsWithin 4) result old new
ReadsKind kind.U64 argument result old new = ReadsAs (EncodesFixed w64) number_value (EndsWithin 8) result old new
ReadsKind kind.VarU32 argument result old new = ReadsAs (EncodesUnsigned 32) number_value U32Fault result old new
ReadsKind kind.VarU64 argument result old new = ReadsAs (EncodesUnsigned 64) number_value U64Fault result old new
ReadsKind kind.VarI32 argument result old new = ReadsAs (EncodesSigned 32) signed_value I32Fault result old new
ReadsKind kind.VarS33 argument result old new = ReadsAs (EncodesSigned 33) signed_value S33Fault result old new
ReadsKind kind.VarI64 argument result old new = ReadsAs (EncodesSigned 64) signed_value I64Fault result old new
ReadsKind kind.Size argument result old new = ReadsAs (EncodesSize argument) number_value (CountFault size_name.BrTable argument) result old new
ReadsKind kind.Bytes argument result old new = ReadsAs (IsBlock argument) (λ block. number_value (length block.now)) (EndsWithin argument) result old new
ReadsKind kind.Sized argument result old new = ReadsAs (EncodesReader old.features) (λ part. number_value (length part.buffer)) ReaderFault result old new
ReadsKind kind.Locals argument result old new = ReadsLocals result old new
ReadsKind kind.Constant argument result old new = ReadsConstant result old new
ReadsKind kind.ValueType argument result old new = ReadsAs EncodesValType of_value_type ValTypeFault result old new
ReadsKind kind.ReferenceType argument result old new = ReadsAs EncodesRefType of_reference_type RefTypeFault result old new
ReadsKind kind.HeapType argument result old new = ReadsAs EncodesHeapType of_heap_type HeapTypeFault result old new
ReadsKind kind.BlockType argument result old new = ReadsAs EncodesBlockType of_block_type BlockTypeFault result old new
ReadsKind kind.Local argument result old new = ReadsLocal argument result old new
ReadsKind kind.Catch argument result old new = ReadsAs EncodesCatch (λ c. of_handler (catch_of c)) CatchFault result old new
ReadsKind kind.Clause argument result old new = ReadsAs EncodesHandle (λ h. of_handler (handle_of h)) HandleFault result old new

-- The kinds, each at the index of its number.
abbrev pub value_kinds : List ValueKind
value_kinds =
    kind.U8 ∷ kind.U32 ∷ kind.U64 ∷ kind.VarU32 ∷ kind.VarU64 ∷ kind.VarI32 ∷ kind.VarS33 ∷ kind.VarI64 ∷ kind.Size ∷ kind.Bytes ∷ kind.Sized ∷ kind.Locals ∷
    kind.Constant ∷ kind.ValueType ∷ kind.ReferenceType ∷ kind.HeapType ∷ kind.BlockType ∷ kind.Local ∷ kind.Catch ∷ kind.Clause ∷ []

-- Neither the reader nor the value changes.
abbrev pub KeepsValue : WasmReader → WasmReader → WasmValue → WasmValue → Type 0
KeepsValue old new value_old value_new = (new ≡ old) × (value_new ≡ value_old)

-- The result of a read as C structs.
abbrev pub ReturnsRead : Result WasmValue Error → WasmRefusal → List ℕ → WasmReader → WasmReader → WasmValue → WasmValue → Type 0
ReturnsRead (Ok v) r bytes old new value_old value_new =
    (r ≡ no_refusal (offset_of (reader_at bytes new))) × (new ≡ reader_moved old new.position old.depth) × (value_new ≡ v)
ReturnsRead (Err e) r bytes old new value_old value_new = (r ≡ refusal_of e) × KeepsValue old new value_old value_new

-- A call that reads a value of the kind with this number.
pub record ReturnsValue (r : WasmRefusal) (bytes : List ℕ) (old new : WasmReader) (number argument : ℕ) (value_old value_new : WasmValue) : Type 0 where
  pub unknown : length value_kinds ≤ number → (r ≡ misuse 105 old.offset) × KeepsValue old new value_old value_new
  pub misused : number < length value_kinds → (IsReader bytes 0 old → ⊥) → (r ≡ misuse 103 old.offset) × KeepsValue old new value_old value_new
  pub reads : (kind : ValueKind) → slice_get value_kinds number ≡ Some kind → IsReader bytes 0 old →
      (result : Result WasmValue Error) × ReadsKind kind argument result (reader_at bytes old) (reader_at bytes new) ×
      ReturnsRead result r bytes old new value_old value_new
