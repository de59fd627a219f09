use Rattle.std.proofs.Common.{◌≡◌, ℕ, ◌<◌, ◌≤◌, ◌⊎◌, Bool, true, false, List, [], ◌∷◌, ◌++◌, inl, inr, Err, refl, ap, sym, ◌∙◌, arith}
use Rattle.wasm_below.specs.declared.error.Error.{Error}
use Rattle.wasm_below.specs.declared.message.Message.{Message}
use Rattle.wasm_below.specs.declared.message.Message.TheVariants as message
use Rattle.wasm_below.specs.declared.message.TypeName.TheVariants as type_name
use Rattle.wasm_below.specs.declared.types.AbstractHeapType.{AbstractHeapType}
use Rattle.wasm_below.specs.declared.types.AbstractHeapType.TheVariants as ty
use Rattle.wasm_below.specs.declared.types.HeapType.{HeapType}
use Rattle.wasm_below.specs.declared.types.HeapType.TheVariants as heap
use Rattle.wasm_below.specs.declared.types.ValType.{ValType}
use Rattle.wasm_below.specs.declared.types.ValType.TheVariants as value
use Rattle.wasm_below.specs.Fault.{DeterminesRefusal}
use Rattle.wasm_below.specs.Reference.{Reference}
use Rattle.wasm_below.specs.Sequence.{PrefixCode}
use Rattle.wasm_below.specs.Source.{Reader, rest, MayFollow, HasRead, Reads, IsByte, EndFault}
use Rattle.wasm_below.specs.TypeEncoding.{heap_type_byte, EncodesShort, ref_byte, EncodesRefType, EncodesValType, LedBy, ByteFault, ValTypeFault}
use Rattle.wasm_module.specs.Imports.{SomeOf}
use Rattle.wasm_module.specs.Types.{IsPackedByte, IsPacked, IsStorage, IsField, FieldFault}
use Rattle.wasm_below.proofs.Blocks.{refused_now}
use Rattle.wasm_below.proofs.DeterminedRefusals.{then_determines, end_determines}
use Rattle.wasm_below.proofs.PrefixCode.{byte_prefix_code}
use Rattle.wasm_below.proofs.Sequences.{then_prefix_code}
use Rattle.wasm_module.proofs.Sequences.{some_code}

abbrev Begins : List ℕ → Type 0
Begins text = (byte : ℕ) × (more : List ℕ) × (text ≡ byte ∷ more) × ((byte ≤ 0x75) ⊎ (0x7b ≤ byte))

byte_small : (a : AbstractHeapType) → heap_type_byte a ≤ 0x75
byte_small ty.NoCont = omega arith
byte_small ty.NoExn = omega arith
byte_small ty.NoFunc = omega arith
byte_small ty.NoExtern = omega arith
byte_small ty.None = omega arith
byte_small ty.Func = omega arith
byte_small ty.Extern = omega arith
byte_small ty.Any = omega arith
byte_small ty.Eq = omega arith
byte_small ty.I31 = omega arith
byte_small ty.Struct = omega arith
byte_small ty.Array = omega arith
byte_small ty.Exn = omega arith
byte_small ty.Cont = omega arith

ref_small : (nullable : Bool) → ref_byte nullable ≤ 0x75
ref_small true = omega arith
ref_small false = omega arith

short_begins : (text : List ℕ) (h : HeapType) → EncodesShort text h → Begins text
short_begins text (heap.Abstract false a) p = (heap_type_byte a, [], p, inl (byte_small a))
short_begins text (heap.Abstract true a) p = (0x65, heap_type_byte a ∷ [], p, inl (omega arith))
short_begins text (heap.Concrete index) p = absurd p
short_begins text (heap.Exact index) p = absurd p

reference_begins : (text : List ℕ) (r : Reference) → EncodesRefType text r → Begins text
reference_begins text r (inl p) = short_begins text r.heap_type p.1
reference_begins text r (inr p) = (ref_byte r.nullable, p.0, p.1, inl (ref_small r.nullable))

value_begins : (text : List ℕ) (t : ValType) → EncodesValType text t → Begins text
value_begins text value.I32 p = (0x7f, [], p, inr (omega arith))
value_begins text value.I64 p = (0x7e, [], p, inr (omega arith))
value_begins text value.F32 p = (0x7d, [], p, inr (omega arith))
value_begins text value.F64 p = (0x7c, [], p, inr (omega arith))
value_begins text value.V128 p = (0x7b, [], p, inr (omega arith))
value_begins text (value.Ref r) p = reference_begins text r p

apart : (byte other : ℕ) → (byte ≤ 0x75) ⊎ (0x7b ≤ byte) → IsPackedByte other → byte ≡ other → ⊥
apart byte other (inl h) (inl q) e = omega (arith, h, q, e)
apart byte other (inl h) (inr q) e = omega (arith, h, q, e)
apart byte other (inr h) (inl q) e = omega (arith, h, q, e)
apart byte other (inr h) (inr q) e = omega (arith, h, q, e)

not_both : (a b x y : List ℕ) (t : ValType) → EncodesValType a t → IsPacked b tt → a ++ x ≡ b ++ y → ⊥
not_both a b x y t p (byte, packed, is) e =
    let begins = value_begins a t p in
    let starts = begins.2 in
    let same : begins.0 ≡ byte = cc (starts, is, e) in
    apart begins.0 byte begins.3 packed same

pub storage_code : PrefixCode EncodesValType → PrefixCode IsStorage
storage_code values a b x y m n (inl p) (inl q) e = some_code EncodesValType values a b x y tt tt p q e
storage_code values a b x y m n (inl p) (inr q) e = absurd (not_both a b x y p.0 p.1 q e)
storage_code values a b x y m n (inr p) (inl q) e = absurd (not_both b a y x q.0 q.1 p (sym e))
storage_code values a b x y m n (inr p) (inr q) e =
    let first = p.2 in
    let second = q.2 in
    let same : p.0 ≡ q.0 = cc (first, second, e) in
    (first ∙ ap (λ c. c ∷ []) same ∙ sym second, refl)

pub field_code : PrefixCode EncodesValType → PrefixCode IsField
field_code values = then_prefix_code IsStorage (λ storage. SomeOf IsByte) (storage_code values) (λ storage. some_code IsByte byte_prefix_code)

pub field_determines : PrefixCode EncodesValType → DeterminesRefusal ValTypeFault → DeterminesRefusal FieldFault
field_determines values value = then_determines IsStorage ValTypeFault (λ storage. EndFault) (storage_code values) value (λ storage. end_determines)

packed_small : (byte : ℕ) → IsPackedByte byte → byte < 256
packed_small byte (inl p) = omega (arith, p)
packed_small byte (inr p) = omega (arith, p)

pub packed_read : (old new : Reader) (byte : ℕ) → LedBy IsPackedByte (rest old) → HasRead IsByte byte old new → HasRead IsStorage tt old new
packed_read old new byte (other, packed, begins) (a, p, t) =
    let is = p.0 in
    let parts = t.parts in
    let starts = begins.1 in
    let same : byte ≡ other = cc (is, parts, starts) in
    (a, inr (other, packed, is ∙ ap (λ c. c ∷ []) same), t)

pub packed_there : (old new : Reader) (e : Error) → LedBy IsPackedByte (rest old) → Reads IsByte EndFault (Err e) old new → ⊥
packed_there old new e (byte, packed, begins) (same, h, f) = refused_now IsByte e old h (byte ∷ []) begins.0 byte (refl, packed_small byte packed) begins.1

pub storage_read : (old new : Reader) (t : ValType) → HasRead EncodesValType t old new → HasRead IsStorage tt old new
storage_read old new t (a, p, k) = (a, inl (t, p), k)

byte_ends : (m : Message) (r : Reader) (offset : ℕ) → ByteFault type_name.ValueType m r offset → rest r ≡ [] → (more : List ℕ) → MayFollow m more → more ≡ []
byte_ends message.EndOfData r offset f empty more follow = follow
byte_ends (message.InvalidType what) r offset f empty more follow = absurd (f.2 empty)
byte_ends _ r offset f empty more follow = absurd f

value_ends : (m : Message) (r : Reader) (offset : ℕ) → ValTypeFault m r offset → rest r ≡ [] → (more : List ℕ) → MayFollow m more → more ≡ []
value_ends m r offset (inl f) empty more follow = let begins = f.2.1 in absurd (cc (begins, empty))
value_ends m r offset (inr f) empty more follow = byte_ends m r offset f.1 empty more follow

none_packed : (bytes more text after : List ℕ) → (LedBy IsPackedByte bytes → ⊥) → (bytes ≡ [] → more ≡ []) → IsPacked text tt →
    bytes ++ more ≡ text ++ after → ⊥
none_packed [] more text after not none (byte, packed, is) whole = let nothing = none refl in cc (nothing, is, whole)
none_packed (c ∷ bytes) more text after not none (byte, packed, is) whole =
    let same : c ≡ byte = cc (is, whole) in not (byte, packed, (bytes, ap (λ v. v ∷ bytes) same))

pub storage_refused : (e : Error) (old new : Reader) → (LedBy IsPackedByte (rest old) → ⊥) →
    Reads EncodesValType ValTypeFault (Err e) old new → Reads IsStorage ValTypeFault (Err e) old new
storage_refused e old new not (same, h, fault) = (same, record { refuses = refuses; fault = h.fault; ahead = h.ahead }, fault)
  where
    refuses : (more : List ℕ) → MayFollow e.message more → (text after : List ℕ) (done : Unit {0}) → IsStorage text done →
        rest old ++ more ≡ text ++ after → ⊥
    refuses more follow text after done (inl p) whole = h.refuses more follow text after p.0 p.1 whole
    refuses more follow text after done (inr p) whole =
        none_packed (rest old) more text after not (λ empty. value_ends e.message old e.offset fault empty more follow) p whole
