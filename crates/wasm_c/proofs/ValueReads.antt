-- Reads of values, and the results of the call that reads one.
use Rattle.std.proofs.Common.{◌≡◌, ℕ, ◌+◌, ◌<◌, ◌≤◌, List, ◌++◌, length, length-append, length-drop, drop, Some, None, Ok, Err, refl, sym, ap, subst, ◌∙◌, arith}
use Rattle.std.specs.Prelude.{slice_get}
use Rattle.std.specs.Int.{w32, w64}
use Rattle.std.proofs.lemmas.Option.{slice_get_past, slice_get-get_or}
use Rattle.wasm_operators.specs.below.declared.error.Error.{Error}
use Rattle.wasm_operators.specs.below.declared.message.Message.{Message}
use Rattle.wasm_operators.specs.below.declared.message.SizeName.TheVariants as size_name
use Rattle.wasm_operators.specs.below.FromReader.{EncodesReader, ReaderFault}
use Rattle.wasm_operators.specs.below.Number.{EncodesUnsigned, EncodesSigned, EncodesFixed, EncodesSize}
use Rattle.wasm_operators.specs.below.Source.{Reader, HasRead, Takes, rest, offset_of, at_position, IsByte, IsBlock, EndFault, EndsWithin, CountFault, U32Fault, U64Fault, I32Fault, S33Fault, I64Fault}
use Rattle.wasm_operators.specs.below.TypeEncoding.{EncodesHeapType, EncodesRefType, EncodesValType, HeapTypeFault, RefTypeFault, ValTypeFault}
use Rattle.wasm_operators.specs.imm.BlockTypeFaults.{BlockTypeFault}
use Rattle.wasm_operators.specs.imm.BlockTypes.{EncodesBlockType}
use Rattle.wasm_operators.specs.imm.HandlerFaults.{CatchFault, HandleFault}
use Rattle.wasm_operators.specs.imm.Handlers.{EncodesCatch, EncodesHandle}
use Rattle.wasm_operators.specs.Constant.{EncodesConstantReader}
use Rattle.wasm_operators.specs.Locals.{ReadsPastLocals}
use Rattle.wasm_view.specs.Members.{catch_of, handle_of}
use Rattle.wasm_c.specs.declared.reader.WasmReader.{WasmReader}
use Rattle.wasm_c.specs.declared.refusal.WasmRefusal.{WasmRefusal}
use Rattle.wasm_c.specs.declared.value.WasmValue.{WasmValue}
use Rattle.wasm_c.specs.declared.value_kind.ValueKind.{ValueKind}
use Rattle.wasm_c.specs.declared.value_kind.ValueKind.TheVariants as kind
use Rattle.wasm_c.specs.Refused.{no_refusal, refusal_of, misuse}
use Rattle.wasm_c.specs.Steps.{IsReader, reader_at, reader_moved}
use Rattle.wasm_c.specs.Values.{ReadsAs, ReadsKind, ReturnsValue, number_value, signed_value, of_value_type, of_reference_type, of_heap_type, of_block_type, of_handler, value_kinds}
use Rattle.wasm_below.proofs.Steps.{unsigned_some}
use Rattle.wasm_c.proofs.Steps.{moved_to}

-- ---- locals, and parts of known length

within_buffer : (old after : Reader) (text first more : List ℕ) → Takes old after text → text ≡ first ++ more → 0 < length first →
    after.position ≤ length old.buffer
within_buffer old after text first more takes split some =
    let place : after.position ≡ old.position + length text = ap (λ (a : Reader). a.position) takes.moved in
    let sum : length (rest old) ≡ length text + length (rest after) = ap length takes.parts ∙ length-append text (rest after) in
    let size : length text ≡ length first + length more = ap length split ∙ length-append first more in
    omega (arith, place, sum, size, some, length-drop old.position old.buffer)

-- The reader after the locals of a body.
pub past_locals : (old after : Reader) → ReadsPastLocals (Ok after) old → (after.position ≤ length old.buffer) × (at_position old after.position ≡ after)
past_locals old after (declarations, (text, (first, more, count, split, number, many), takes)) =
    (within_buffer old after text first more takes split (unsigned_some 32 first count number), moved_to old after text takes)

-- A part with its length is a new reader.
pub part_at_start : (old new part : Reader) → HasRead (EncodesReader old.features) part old new → part.position ≡ 0
part_at_start old new part (text, (first, more, size, split, number, (features, buffer, position, long)), takes) = position

-- A constant expression is a new reader.
pub constant_at_start : (old new constant : Reader) → HasRead (EncodesConstantReader old.features) constant old new → constant.position ≡ 0
constant_at_start old new constant (text, ((features, buffer, position, long), encodes), takes) = position

-- The bytes that are left in a new reader are all its bytes.
pub all_remain : (whole part : Reader) (count : ℕ) → part ≡ whole → whole.position ≡ 0 → count ≡ length (rest part) → count ≡ length whole.buffer
all_remain whole part count same start is =
    is ∙ ap (λ (r : Reader). length (rest r)) same ∙ ap (λ n. length (drop n whole.buffer)) start

-- ---- the position after a value

as_moves : {X : Type 0} (Encodes : List ℕ → X → Type 0) (value : X → WasmValue) (Fault : Message → Reader → ℕ → Type 0) (v : WasmValue) (old new : Reader) →
    ReadsAs Encodes value Fault (Ok v) old new → at_position old new.position ≡ new
as_moves Encodes value Fault v old new (x, (text, encodes, takes), is) = moved_to old new text takes

as_stays : {X : Type 0} (Encodes : List ℕ → X → Type 0) (value : X → WasmValue) (Fault : Message → Reader → ℕ → Type 0) (e : Error) (old new : Reader) →
    ReadsAs Encodes value Fault (Err e) old new → new ≡ old
as_stays Encodes value Fault e old new (same, refused, fault) = same

kind_moves : (k : ValueKind) (argument : ℕ) (v : WasmValue) (old new : Reader) → ReadsKind k argument (Ok v) old new → at_position old new.position ≡ new
kind_moves kind.U8 argument v old new reads = as_moves IsByte number_value EndFault v old new reads
kind_moves kind.U32 argument v old new reads = as_moves (EncodesFixed w32) number_value (EndsWithin 4) v old new reads
kind_moves kind.U64 argument v old new reads = as_moves (EncodesFixed w64) number_value (EndsWithin 8) v old new reads
kind_moves kind.VarU32 argument v old new reads = as_moves (EncodesUnsigned 32) number_value U32Fault v old new reads
kind_moves kind.VarU64 argument v old new reads = as_moves (EncodesUnsigned 64) number_value U64Fault v old new reads
kind_moves kind.VarI32 argument v old new reads = as_moves (EncodesSigned 32) signed_value I32Fault v old new reads
kind_moves kind.VarS33 argument v old new reads = as_moves (EncodesSigned 33) signed_value S33Fault v old new reads
kind_moves kind.VarI64 argument v old new reads = as_moves (EncodesSigned 64) signed_value I64Fault v old new reads
kind_moves kind.Size argument v old new reads = as_moves (EncodesSize argument) number_value (CountFault size_name.BrTable argument) v old new reads
kind_moves kind.Bytes argument v old new reads = as_moves (IsBlock argument) (λ block. number_value (length block.now)) (EndsWithin argument) v old new reads
kind_moves kind.Sized argument v old new reads = as_moves (EncodesReader old.features) (λ part. number_value (length part.buffer)) ReaderFault v old new reads
kind_moves kind.Locals argument v old new ((declarations, (text, encodes, takes)), is) = moved_to old new text takes
kind_moves kind.Constant argument v old new (constant, (text, encodes, takes), is) = moved_to old new text takes
kind_moves kind.ValueType argument v old new reads = as_moves EncodesValType of_value_type ValTypeFault v old new reads
kind_moves kind.ReferenceType argument v old new reads = as_moves EncodesRefType of_reference_type RefTypeFault v old new reads
kind_moves kind.HeapType argument v old new reads = as_moves EncodesHeapType of_heap_type HeapTypeFault v old new reads
kind_moves kind.BlockType argument v old new reads = as_moves EncodesBlockType of_block_type BlockTypeFault v old new reads
kind_moves kind.Local argument v old new (d, mid, (first, number, taken), fits, (second, typed, takes), is) =
    ap (λ (m : Reader). at_position m new.position) (moved_to old mid first taken) ∙ moved_to mid new second takes
kind_moves kind.Catch argument v old new reads = as_moves EncodesCatch (λ c. of_handler (catch_of c)) CatchFault v old new reads
kind_moves kind.Clause argument v old new reads = as_moves EncodesHandle (λ h. of_handler (handle_of h)) HandleFault v old new reads

kind_stays : (k : ValueKind) (argument : ℕ) (e : Error) (old new : Reader) → ReadsKind k argument (Err e) old new → new ≡ old
kind_stays kind.U8 argument e old new reads = as_stays IsByte number_value EndFault e old new reads
kind_stays kind.U32 argument e old new reads = as_stays (EncodesFixed w32) number_value (EndsWithin 4) e old new reads
kind_stays kind.U64 argument e old new reads = as_stays (EncodesFixed w64) number_value (EndsWithin 8) e old new reads
kind_stays kind.VarU32 argument e old new reads = as_stays (EncodesUnsigned 32) number_value U32Fault e old new reads
kind_stays kind.VarU64 argument e old new reads = as_stays (EncodesUnsigned 64) number_value U64Fault e old new reads
kind_stays kind.VarI32 argument e old new reads = as_stays (EncodesSigned 32) signed_value I32Fault e old new reads
kind_stays kind.VarS33 argument e old new reads = as_stays (EncodesSigned 33) signed_value S33Fault e old new reads
kind_stays kind.VarI64 argument e old new reads = as_stays (EncodesSigned 64) signed_value I64Fault e old new reads
kind_stays kind.Size argument e old new reads = as_stays (EncodesSize argument) number_value (CountFault size_name.BrTable argument) e old new reads
kind_stays kind.Bytes argument e old new reads = as_stays (IsBlock argument) (λ block. number_value (length block.now)) (EndsWithin argument) e old new reads
kind_stays kind.Sized argument e old new reads = as_stays (EncodesReader old.features) (λ part. number_value (length part.buffer)) ReaderFault e old new reads
kind_stays kind.Locals argument e old new (same, refused) = same
kind_stays kind.Constant argument e old new (same, refused) = same
kind_stays kind.ValueType argument e old new reads = as_stays EncodesValType of_value_type ValTypeFault e old new reads
kind_stays kind.ReferenceType argument e old new reads = as_stays EncodesRefType of_reference_type RefTypeFault e old new reads
kind_stays kind.HeapType argument e old new reads = as_stays EncodesHeapType of_heap_type HeapTypeFault e old new reads
kind_stays kind.BlockType argument e old new reads = as_stays EncodesBlockType of_block_type BlockTypeFault e old new reads
kind_stays kind.Local argument e old new (same, refused) = same
kind_stays kind.Catch argument e old new reads = as_stays EncodesCatch (λ c. of_handler (catch_of c)) CatchFault e old new reads
kind_stays kind.Clause argument e old new reads = as_stays EncodesHandle (λ h. of_handler (handle_of h)) HandleFault e old new reads

-- ---- the call

same_kind : (k other : ValueKind) → Some k ≡ Some other → k ≡ other
same_kind k other e = cc e

-- There is no such kind.
pub no_kind : (bytes : List ℕ) (old : WasmReader) (number argument : ℕ) (value : WasmValue) (r : WasmRefusal) → None ≡ slice_get value_kinds number →
    r ≡ misuse 105 old.offset → ReturnsValue r bytes old old number argument value value
no_kind bytes old number argument value r none is = record {
  unknown = λ more. (is, (refl, refl));
  misused = λ fewer other. absurd (cc (none ∙ slice_get-get_or value_kinds number kind.U8 fewer));
  reads = λ k there reader. absurd (cc (none ∙ there));
}

-- The C struct is not a reader without frames.
pub no_reader : (bytes : List ℕ) (old : WasmReader) (k : ValueKind) (number argument : ℕ) (value : WasmValue) (r : WasmRefusal) →
    Some k ≡ slice_get value_kinds number → (IsReader bytes 0 old → ⊥) → r ≡ misuse 103 old.offset → ReturnsValue r bytes old old number argument value value
no_reader bytes old k number argument value r some other is = record {
  unknown = λ more. absurd (cc (some ∙ slice_get_past value_kinds number more));
  misused = λ fewer none. (is, (refl, refl));
  reads = λ l there reader. absurd (other reader);
}

-- The value is an error.
pub no_value : (bytes : List ℕ) (old : WasmReader) (k : ValueKind) (number argument : ℕ) (start ahead : Reader) (e : Error) (value : WasmValue)
    (r : WasmRefusal) → Some k ≡ slice_get value_kinds number → IsReader bytes 0 old → start ≡ reader_at bytes old →
    ReadsKind k argument (Err e) start ahead → r ≡ refusal_of e → ReturnsValue r bytes old old number argument value value
no_value bytes old k number argument start ahead e value r some was same refused is = record {
  unknown = λ more. absurd (cc (some ∙ slice_get_past value_kinds number more));
  misused = λ fewer none. absurd (none was);
  reads = λ l found reader.
      let here = reader_at bytes old in
      let there : ahead ≡ here = kind_stays k argument e start ahead refused ∙ same in
      let one = subst (λ (s : Reader). ReadsKind k argument (Err e) s ahead) same refused in
      let two = subst (λ (s : Reader). ReadsKind k argument (Err e) here s) there one in
      (Err e, subst (λ (m : ValueKind). ReadsKind m argument (Err e) here here) (same_kind k l (some ∙ found)) two, (is, (refl, refl)));
}

-- A value is read.
pub value_found : (bytes : List ℕ) (old new : WasmReader) (k : ValueKind) (number argument position offset : ℕ) (start ahead : Reader)
    (v value_old value_new : WasmValue) (r : WasmRefusal) → Some k ≡ slice_get value_kinds number → IsReader bytes 0 old → start ≡ reader_at bytes old →
    ReadsKind k argument (Ok v) start ahead → position ≡ ahead.position → new ≡ reader_moved old position old.depth → value_new ≡ v →
    offset ≡ offset_of ahead → r ≡ no_refusal offset → ReturnsValue r bytes old new number argument value_old value_new
value_found bytes old new k number argument position offset start ahead v value_old value_new r some was same taken at moved value place is = record {
  unknown = λ more. absurd (cc (some ∙ slice_get_past value_kinds number more));
  misused = λ fewer none. absurd (none was);
  reads = λ l found reader.
      let here = reader_at bytes old in
      let there : ahead ≡ reader_at bytes new =
      sym (ap (reader_at bytes) moved ∙ ap (at_position here) at ∙ ap (λ (s : Reader). at_position s ahead.position) (sym same) ∙
      kind_moves k argument v start ahead taken) in
      let one = subst (λ (s : Reader). ReadsKind k argument (Ok v) s ahead) same taken in
      let two = subst (λ (s : Reader). ReadsKind k argument (Ok v) here s) there one in
      let pinned : new ≡ reader_moved old new.position old.depth =
      moved ∙ ap (λ p. reader_moved old p old.depth) (sym (ap (λ (n : WasmReader). n.position) moved)) in (
        Ok v,
        subst (λ (m : ValueKind). ReadsKind m argument (Ok v) here (reader_at bytes new)) (same_kind k l (some ∙ found)) two,
        (is ∙ ap no_refusal (place ∙ ap offset_of there), pinned, value),
      );
}
