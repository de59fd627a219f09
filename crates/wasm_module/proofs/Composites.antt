use Rattle.std.proofs.Common.{◌≡◌, ℕ, zero, suc, ◌+◌, ◌-◌, ◌<◌, ◌≤◌, List, [], ◌∷◌, inl, inr, Result, Ok, Err, refl, ap, sym, ◌∙◌, arith}
use Rattle.wasm_below.specs.declared.error.Error.{Error}
use Rattle.wasm_below.specs.Fault.{DeterminesRefusal}
use Rattle.wasm_below.specs.Number.{EncodesUnsigned}
use Rattle.wasm_below.specs.Sequence.{PrefixCode}
use Rattle.wasm_below.specs.Source.{Reader, rest, BeginsWith, IsByte, EndFault, U32Fault, HasRead}
use Rattle.wasm_below.specs.TypeEncoding.{EncodesValType, ValTypeFault}
use Rattle.wasm_below.specs.Ahead.{Fails, ReadsAhead}
use Rattle.wasm_module.specs.Types.{EncodesValueTypes, ValueTypesFault, EncodesSignature, SignatureFault, IsField, FieldFault, EncodesFields, FieldsFault, EncodesAfterByte, FaultAfterByte, EncodesComposite, CompositeFault, NamesSupertypes, EncodesIndices, IndicesFault, EncodesWithSupertypes, WithSupertypesFault, EncodesSubAfterByte, SubFaultAfterByte, EncodesSubType, SubTypeFault, EncodesRecTypeLength, RecTypeLengthFault}
use Rattle.wasm_module.specs.declared.composite.CompositeType.{CompositeType}
use Rattle.wasm_module.specs.declared.composite.CompositeType.TheVariants as composite
use Rattle.wasm_below.proofs.Ahead.{fails_as}
use Rattle.wasm_below.proofs.Blocks.{refused_now}
use Rattle.wasm_below.proofs.DeterminedRefusals.{then_determines, end_determines}
use Rattle.wasm_below.proofs.PrefixCode.{byte_prefix_code}
use Rattle.wasm_below.proofs.Sequences.{then_prefix_code}
use Rattle.wasm_module.proofs.Fields.{field_code, field_determines}
use Rattle.wasm_module.proofs.Many.{length_code, length_determines}
use Rattle.wasm_module.proofs.Sequences.{both_code}

module _ (byte : ℕ) where
  pub function_read : byte ≡ 0x60 → {old new : Reader} {parameters results : ℕ} → HasRead EncodesSignature (parameters, results) old new →
      HasRead (EncodesAfterByte byte) (composite.Function parameters results) old new
  function_read is (a, p, t) = (a, (is, p), t)

  pub struct_read : byte ≡ 0x5f → {old new : Reader} {fields : ℕ} → HasRead EncodesFields fields old new →
      HasRead (EncodesAfterByte byte) (composite.Struct fields) old new
  struct_read is (a, p, t) = (a, (is, p), t)

  pub array_read : byte ≡ 0x5e → {old new : Reader} → HasRead IsField tt old new → HasRead (EncodesAfterByte byte) composite.Array old new
  array_read is (a, p, t) = (a, (is, p), t)

  as_function : byte ≡ 0x60 → (text : List ℕ) (ty : CompositeType) → EncodesAfterByte byte text ty → (p : ℕ × ℕ) × EncodesSignature text p
  as_function is text (composite.Function parameters results) b = ((parameters, results), b.1)
  as_function is text (composite.Struct fields) b = let other = b.0 in absurd (omega (arith, is, other))
  as_function is text composite.Array b = let other = b.0 in absurd (omega (arith, is, other))
  as_function is text (composite.Other kind) b = absurd (b.0.0 is)

  pub function_refused : byte ≡ 0x60 → {e : Error} {old : Reader} → Fails EncodesSignature SignatureFault e old →
      Fails (EncodesAfterByte byte) (FaultAfterByte byte) e old
  function_refused is =
      fails_as EncodesSignature (EncodesAfterByte byte) SignatureFault (FaultAfterByte byte) (as_function is) (λ f. inl (is, f))

  as_struct : byte ≡ 0x5f → (text : List ℕ) (ty : CompositeType) → EncodesAfterByte byte text ty → (n : ℕ) × EncodesFields text n
  as_struct is text (composite.Function parameters results) b = let other = b.0 in absurd (omega (arith, is, other))
  as_struct is text (composite.Struct fields) b = (fields, b.1)
  as_struct is text composite.Array b = let other = b.0 in absurd (omega (arith, is, other))
  as_struct is text (composite.Other kind) b = absurd (b.0.1 is)

  pub struct_refused : byte ≡ 0x5f → {e : Error} {old : Reader} → Fails EncodesFields FieldsFault e old →
      Fails (EncodesAfterByte byte) (FaultAfterByte byte) e old
  struct_refused is =
      fails_as EncodesFields (EncodesAfterByte byte) FieldsFault (FaultAfterByte byte) (as_struct is) (λ f. inr (inl (is, f)))

  as_array : byte ≡ 0x5e → (text : List ℕ) (ty : CompositeType) → EncodesAfterByte byte text ty → (done : Unit {0}) × IsField text done
  as_array is text (composite.Function parameters results) b = let other = b.0 in absurd (omega (arith, is, other))
  as_array is text (composite.Struct fields) b = let other = b.0 in absurd (omega (arith, is, other))
  as_array is text composite.Array b = (tt, b.1)
  as_array is text (composite.Other kind) b = absurd (b.0.2 is)

  pub array_refused : byte ≡ 0x5e → {e : Error} {old : Reader} → Fails IsField FieldFault e old →
      Fails (EncodesAfterByte byte) (FaultAfterByte byte) e old
  array_refused is =
      fails_as IsField (EncodesAfterByte byte) FieldFault (FaultAfterByte byte) (as_array is) (λ f. inr (inr (is, f)))

  as_with_supertypes : NamesSupertypes byte → (text : List ℕ) (ty : CompositeType) → EncodesSubAfterByte byte text ty → (same : CompositeType) × EncodesWithSupertypes text same
  as_with_supertypes named text ty (inl p) = (ty, p.1)
  as_with_supertypes named text ty (inr p) = absurd (p.0 named)

  pub with_supertypes_reads : NamesSupertypes byte → (result : Result CompositeType Error) (old new : Reader) →
      ReadsAhead EncodesWithSupertypes WithSupertypesFault result old new → ReadsAhead (EncodesSubAfterByte byte) (SubFaultAfterByte byte) result old new
  with_supertypes_reads named (Ok ty) old new (a, p, t) = (a, inl (named, p), t)
  with_supertypes_reads named (Err e) old new h =
      fails_as EncodesWithSupertypes (EncodesSubAfterByte byte) WithSupertypesFault (SubFaultAfterByte byte) (as_with_supertypes named)
      (λ f. inl (named, f)) h

pub names_supertypes : (byte : ℕ) → 0x4f ≤ byte → byte < 0x51 → NamesSupertypes byte
names_supertypes byte low high = named_at (byte - 0x4f) (omega (arith, low)) (omega (arith, low, high))
  where
    named_at : (more : ℕ) → byte ≡ 0x4f + more → more < 2 → NamesSupertypes byte
    named_at zero e h = inl (omega (arith, e))
    named_at (suc zero) e h = inr (omega (arith, e))
    named_at (suc (suc more)) e h = absurd (omega (arith, h))

pub rec_type_byte : {old new : Reader} {byte : ℕ} → BeginsWith 0x4e (rest old) → HasRead IsByte byte old new → byte ≡ 0x4e
rec_type_byte {old} {new} {byte} (more, starts) (a, p, t) = let is = p.0 in let parts = t.parts in cc (is, parts, starts)

pub rec_type_there : {old : Reader} {e : Error} → BeginsWith 0x4e (rest old) → Fails IsByte EndFault e old → ⊥
rec_type_there {old} {e} (more, starts) (h, f) = refused_now IsByte e old h (0x4e ∷ []) more 0x4e (refl, omega arith) starts

pub rec_type_read : {byte : ℕ} → byte ≡ 0x4e → {old new : Reader} {n : ℕ} → HasRead (EncodesUnsigned 32) n old new →
    HasRead (λ text m. (byte ≡ 0x4e) × EncodesUnsigned 32 text m) n old new
rec_type_read is (a, p, t) = (a, (is, p), t)

pub rec_type_refused : (byte : ℕ) {e : Error} {old : Reader} → Fails (EncodesUnsigned 32) U32Fault e old →
    Fails (λ text m. (byte ≡ 0x4e) × EncodesUnsigned 32 text m) U32Fault e old
rec_type_refused byte =
    fails_as (EncodesUnsigned 32) (λ text m. (byte ≡ 0x4e) × EncodesUnsigned 32 text m) U32Fault U32Fault (λ text m b. (m, b.1)) (λ f. f)

module _ (numbers : PrefixCode (EncodesUnsigned 32)) where
  pub indices_code : PrefixCode EncodesIndices
  indices_code = length_code (EncodesUnsigned 32) U32Fault numbers numbers

  rec_type_after : (byte : ℕ) → PrefixCode (λ text n. (byte ≡ 0x4e) × EncodesUnsigned 32 text n)
  rec_type_after byte a b x y m n p q e = numbers a b x y m n p.1 q.1 e

  pub rec_type_code : PrefixCode EncodesRecTypeLength
  rec_type_code = then_prefix_code IsByte (λ byte text n. (byte ≡ 0x4e) × EncodesUnsigned 32 text n) byte_prefix_code rec_type_after

  pub rec_type_determines : DeterminesRefusal U32Fault → DeterminesRefusal RecTypeLengthFault
  rec_type_determines small m k r a b p q =
      then_determines IsByte EndFault (λ byte. U32Fault) byte_prefix_code end_determines (λ byte. small) m k r a b (inr p) (inr q)

  module _ (values : PrefixCode EncodesValType) where
    pub value_types_code : PrefixCode EncodesValueTypes
    value_types_code = length_code EncodesValType ValTypeFault values numbers

    signature_code : PrefixCode EncodesSignature
    signature_code = both_code EncodesValueTypes EncodesValueTypes (λ (p : ℕ × ℕ). p) value_types_code value_types_code (λ p. p) (λ p. refl)

    fields_code : PrefixCode EncodesFields
    fields_code = length_code IsField FieldFault (field_code values) numbers

    after_byte_code : (byte : ℕ) → PrefixCode (EncodesAfterByte byte)
    after_byte_code byte a b x y (composite.Function p r) (composite.Function s t) h q e =
        let o = signature_code a b x y (p, r) (s, t) h.1 q.1 e in (o.0, ap (λ v. composite.Function v.0 v.1) o.1)
    after_byte_code byte a b x y (composite.Function p r) (composite.Struct n) h q e = let u = h.0 in let v = q.0 in absurd (omega (arith, u, v))
    after_byte_code byte a b x y (composite.Function p r) composite.Array h q e = let u = h.0 in let v = q.0 in absurd (omega (arith, u, v))
    after_byte_code byte a b x y (composite.Function p r) (composite.Other k) h q e = absurd (q.0.0 h.0)
    after_byte_code byte a b x y (composite.Struct n) (composite.Function p r) h q e = let u = h.0 in let v = q.0 in absurd (omega (arith, u, v))
    after_byte_code byte a b x y (composite.Struct n) (composite.Struct l) h q e = let o = fields_code a b x y n l h.1 q.1 e in (o.0, ap composite.Struct o.1)
    after_byte_code byte a b x y (composite.Struct n) composite.Array h q e = let u = h.0 in let v = q.0 in absurd (omega (arith, u, v))
    after_byte_code byte a b x y (composite.Struct n) (composite.Other k) h q e = absurd (q.0.1 h.0)
    after_byte_code byte a b x y composite.Array (composite.Function p r) h q e = let u = h.0 in let v = q.0 in absurd (omega (arith, u, v))
    after_byte_code byte a b x y composite.Array (composite.Struct n) h q e = let u = h.0 in let v = q.0 in absurd (omega (arith, u, v))
    after_byte_code byte a b x y composite.Array composite.Array h q e = ((field_code values a b x y tt tt h.1 q.1 e).0, refl)
    after_byte_code byte a b x y composite.Array (composite.Other k) h q e = absurd (q.0.2 h.0)
    after_byte_code byte a b x y (composite.Other k) (composite.Function p r) h q e = absurd (h.0.0 q.0)
    after_byte_code byte a b x y (composite.Other k) (composite.Struct n) h q e = absurd (h.0.1 q.0)
    after_byte_code byte a b x y (composite.Other k) composite.Array h q e = absurd (h.0.2 q.0)
    after_byte_code byte a b x y (composite.Other k) (composite.Other l) h q e = (h.2 ∙ sym q.2, ap composite.Other (h.1 ∙ sym q.1))

    composite_code : PrefixCode EncodesComposite
    composite_code = then_prefix_code IsByte EncodesAfterByte byte_prefix_code after_byte_code

    with_supertypes_code : PrefixCode EncodesWithSupertypes
    with_supertypes_code = then_prefix_code EncodesIndices (λ supertypes. EncodesComposite) indices_code (λ supertypes. composite_code)

    sub_after_byte_code : (byte : ℕ) → PrefixCode (EncodesSubAfterByte byte)
    sub_after_byte_code byte a b x y m n (inl p) (inl q) e = with_supertypes_code a b x y m n p.1 q.1 e
    sub_after_byte_code byte a b x y m n (inl p) (inr q) e = absurd (q.0 p.0)
    sub_after_byte_code byte a b x y m n (inr p) (inl q) e = absurd (p.0 q.0)
    sub_after_byte_code byte a b x y m n (inr p) (inr q) e = after_byte_code byte a b x y m n p.1 q.1 e

    pub sub_type_code : PrefixCode EncodesSubType
    sub_type_code = then_prefix_code IsByte EncodesSubAfterByte byte_prefix_code sub_after_byte_code

    module _ (small : DeterminesRefusal U32Fault) (value : DeterminesRefusal ValTypeFault) where
      value_types_determine : DeterminesRefusal ValueTypesFault
      value_types_determine = length_determines EncodesValType ValTypeFault values numbers small value

      signature_determines : DeterminesRefusal SignatureFault
      signature_determines =
          then_determines EncodesValueTypes ValueTypesFault (λ parameters. ValueTypesFault) value_types_code value_types_determine
          (λ parameters. value_types_determine)

      fields_determine : DeterminesRefusal FieldsFault
      fields_determine = length_determines IsField FieldFault (field_code values) numbers small (field_determines values value)

      after_byte_determines : (byte : ℕ) → DeterminesRefusal (FaultAfterByte byte)
      after_byte_determines byte m k r a b (inl p) (inl q) = signature_determines m k r a b p.1 q.1
      after_byte_determines byte m k r a b (inl p) (inr (inl q)) = let u = p.0 in let v = q.0 in absurd (omega (arith, u, v))
      after_byte_determines byte m k r a b (inl p) (inr (inr q)) = let u = p.0 in let v = q.0 in absurd (omega (arith, u, v))
      after_byte_determines byte m k r a b (inr (inl p)) (inl q) = let u = p.0 in let v = q.0 in absurd (omega (arith, u, v))
      after_byte_determines byte m k r a b (inr (inl p)) (inr (inl q)) = fields_determine m k r a b p.1 q.1
      after_byte_determines byte m k r a b (inr (inl p)) (inr (inr q)) = let u = p.0 in let v = q.0 in absurd (omega (arith, u, v))
      after_byte_determines byte m k r a b (inr (inr p)) (inl q) = let u = p.0 in let v = q.0 in absurd (omega (arith, u, v))
      after_byte_determines byte m k r a b (inr (inr p)) (inr (inl q)) = let u = p.0 in let v = q.0 in absurd (omega (arith, u, v))
      after_byte_determines byte m k r a b (inr (inr p)) (inr (inr q)) = field_determines values value m k r a b p.1 q.1

      composite_determines : DeterminesRefusal CompositeFault
      composite_determines = then_determines IsByte EndFault FaultAfterByte byte_prefix_code end_determines after_byte_determines

      with_supertypes_determines : DeterminesRefusal WithSupertypesFault
      with_supertypes_determines =
          then_determines EncodesIndices IndicesFault (λ supertypes. CompositeFault) indices_code
          (length_determines (EncodesUnsigned 32) U32Fault numbers numbers small small) (λ supertypes. composite_determines)

      sub_after_byte_determines : (byte : ℕ) → DeterminesRefusal (SubFaultAfterByte byte)
      sub_after_byte_determines byte m k r a b (inl p) (inl q) = with_supertypes_determines m k r a b p.1 q.1
      sub_after_byte_determines byte m k r a b (inl p) (inr q) = absurd (q.0 p.0)
      sub_after_byte_determines byte m k r a b (inr p) (inl q) = absurd (p.0 q.0)
      sub_after_byte_determines byte m k r a b (inr p) (inr q) = after_byte_determines byte m k r a b p.1 q.1

      pub sub_type_determines : DeterminesRefusal SubTypeFault
      sub_type_determines = then_determines IsByte EndFault SubFaultAfterByte byte_prefix_code end_determines sub_after_byte_determines
