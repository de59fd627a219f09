-- The C struct of a value type, and the bytes that are read again.
use Rattle.std.specs.Prelude.{IsTrue, ◌↔◌}
use Rattle.std.proofs.Common.{◌≡◌, ℕ, ◌≤◌, Bool, true, false, List, [], length, refl, sym, ap, subst, ◌∙◌, append-nil}
use Rattle.wasm_below.specs.declared.error.Error.{Error}
use Rattle.wasm_below.specs.declared.types.ValType.{ValType}
use Rattle.wasm_below.specs.Source.{Reader, rest, HasRead, IsRefusal}
use Rattle.wasm_below.specs.TypeEncoding.{EncodesValType}
use Rattle.wasm_below.proofs.Blocks.{refused_now}
use Rattle.wasm_below.proofs.TypePrefixCodes.{value_prefix_code}
use Rattle.wasm_encode_numbers.specs.Appended.{Appends, HasNone}
use Rattle.wasm_encode_immediates.specs.TypeBytes.{value_type_bytes}
use Rattle.wasm_encode_immediates.proofs.TypeTexts.{value_encodes, value_short}
use Rattle.wasm_view.specs.Members.{type_of}
use Rattle.wasm_view.specs.declared.members.WasmType.{WasmType}
use Rattle.wasm_encode_view.specs.Bytes.{value_bytes}
use Rattle.wasm_encode_view.specs.Locals.{EncodesType, ReadsType}
use Rattle.wasm_encode_view.proofs.Fits.{value_fits}
use Rattle.wasm_encode_view.proofs.SameTypes.{value_same}

-- The bytes of a type with the C struct.
bytes_of : (v : WasmType) (bytes : List ℕ) (ty : ValType) → bytes ≡ value_bytes v.kind v.index → v ≡ type_of ty → bytes ≡ value_type_bytes ty
bytes_of v bytes ty is same = is ∙ ap (λ (w : WasmType). value_bytes w.kind w.index) same ∙ value_same ty

encoded : (v : WasmType) (bytes text : List ℕ) (ty : ValType) → bytes ≡ value_bytes v.kind v.index → v ≡ type_of ty → EncodesValType text ty → EncodesValType bytes ty
encoded v bytes text ty is same p = subst (λ t. EncodesValType t ty) (sym (bytes_of v bytes ty is same)) (value_encodes ty (value_fits ty text p))

-- The type that was read has the C struct.
found : (v : WasmType) (bytes : List ℕ) (ty : ValType) (old new : Reader) → bytes ≡ value_bytes v.kind v.index → HasRead EncodesValType ty old new → v ≡ type_of ty →
    Appends EncodesType v [] bytes
found v bytes ty old new is (text, p, moved) same =
    record {
      text = bytes;
      appended = refl;
      encodes = (ty, same, encoded v bytes text ty is same p);
      shortest = λ other (it, alike, q). subst (λ t. length t ≤ length other) (sym (bytes_of v bytes it is alike)) (value_short it other q);
    }

-- It has another one.
another : (v : WasmType) (bytes : List ℕ) (ty : ValType) (old new : Reader) → bytes ≡ value_bytes v.kind v.index → rest old ≡ bytes → HasRead EncodesValType ty old new →
    ¬ (v ≡ type_of ty) → HasNone EncodesType v
another v bytes ty old new is all (text, p, moved) not other (it, alike, q) =
    let whole = encoded v bytes other it is alike q in
    let same = value_prefix_code text bytes (rest new) [] ty it p whole (sym moved.parts ∙ all ∙ sym (append-nil bytes)) in
    not (alike ∙ ap type_of (sym same.1))

pub decided : (b : Bool) (v w : WasmType) (bytes : List ℕ) (ty : ValType) (old new : Reader) → (IsTrue b ↔ (w ≡ v)) → w ≡ type_of ty → bytes ≡ value_bytes v.kind v.index → rest old ≡ bytes →
    HasRead EncodesValType ty old new → ReadsType v b bytes
decided true v w bytes ty old new iff same is all read = found v bytes ty old new is read (sym (iff.0 refl) ∙ same)
decided false v w bytes ty old new iff same is all read = another v bytes ty old new is all read (λ h. absurd (cc (iff.1 (same ∙ sym h))))

-- None was read.
pub none : (v : WasmType) (bytes : List ℕ) (e : Error) (old : Reader) → bytes ≡ value_bytes v.kind v.index → rest old ≡ bytes → IsRefusal EncodesValType e old → HasNone EncodesType v
none v bytes e old is all refused other (it, alike, q) =
    refused_now EncodesValType e old refused bytes [] it (encoded v bytes other it is alike q) (all ∙ sym (append-nil bytes))
