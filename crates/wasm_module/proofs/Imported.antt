use Rattle.std.proofs.Common.{ℕ, List, zero, suc, inl, inr, refl, sym, ◌∙◌}
use Rattle.wasm_below.specs.Fault.{DeterminesRefusal}
use Rattle.wasm_below.specs.Number.{EncodesUnsigned}
use Rattle.wasm_below.specs.Sequence.{PrefixCode}
use Rattle.wasm_below.specs.Source.{IsByte, EndFault, U32Fault, U64Fault}
use Rattle.wasm_below.specs.TypeEncoding.{EncodesRefType, EncodesValType, RefTypeFault, ValTypeFault}
use Rattle.wasm_module.specs.Imports.{SomeOf, IsMost, MostFault, IsBounds, BoundsFault, IsLimits, LimitsFault, IsTable, IsGlobal, IsTag, IsExternTypeAfterByte, ExternTypeFaultAfterByte, EncodesExternTypeAfterByte, EncodesExternType, ExternTypeFault, EncodesNamed, NamedFault, ImportParts, EncodesImport, ImportFault}
use Rattle.wasm_module.specs.Names.{EncodesName, NameFault}
use Rattle.wasm_below.proofs.DeterminedRefusals.{then_determines, end_determines}
use Rattle.wasm_below.proofs.PrefixCode.{byte_prefix_code}
use Rattle.wasm_below.proofs.Sequences.{then_prefix_code}
use Rattle.wasm_module.proofs.Named.{name_code, name_determines}
use Rattle.wasm_module.proofs.Sequences.{both_code, some_code}

module _ (numbers : (width : ℕ) → PrefixCode (EncodesUnsigned width)) (references : PrefixCode EncodesRefType) (values : PrefixCode EncodesValType) where
  most_code : (flags : ℕ) → PrefixCode (IsMost flags)
  most_code flags a b x y m n (inl p) (inl q) e = some_code (EncodesUnsigned 64) (numbers 64) a b x y m n p.1 q.1 e
  most_code flags a b x y m n (inl p) (inr q) e = absurd (q.0 p.0)
  most_code flags a b x y m n (inr p) (inl q) e = absurd (p.0 q.0)
  most_code flags a b x y m n (inr p) (inr q) e = (p.1 ∙ sym q.1, refl)

  bounds_code : (flags : ℕ) → PrefixCode (IsBounds flags)
  bounds_code flags = then_prefix_code (EncodesUnsigned 64) (λ least. IsMost flags) (numbers 64) (λ least. most_code flags)

  limits_code : PrefixCode IsLimits
  limits_code = then_prefix_code IsByte IsBounds byte_prefix_code bounds_code

  table_code : PrefixCode IsTable
  table_code = then_prefix_code EncodesRefType (λ ty. IsLimits) references (λ ty. limits_code)

  global_code : PrefixCode IsGlobal
  global_code = then_prefix_code EncodesValType (λ ty. SomeOf IsByte) values (λ ty. some_code IsByte byte_prefix_code)

  tag_code : PrefixCode IsTag
  tag_code = then_prefix_code IsByte (λ attribute. SomeOf (EncodesUnsigned 32)) byte_prefix_code (λ attribute. some_code (EncodesUnsigned 32) (numbers 32))

  is_code : (byte : ℕ) → PrefixCode (IsExternTypeAfterByte byte)
  is_code zero = some_code (EncodesUnsigned 32) (numbers 32)
  is_code (suc zero) = table_code
  is_code (suc (suc zero)) = limits_code
  is_code (suc (suc (suc zero))) = global_code
  is_code (suc (suc (suc (suc zero)))) = tag_code
  is_code (suc (suc (suc (suc (suc more))))) = λ a b x y m n p q e. (p ∙ sym q, refl)

  extern_type_after_byte_code : (byte : ℕ) → PrefixCode (EncodesExternTypeAfterByte byte)
  extern_type_after_byte_code byte a b x y m n p q e = ((is_code byte a b x y tt tt p.1 q.1 e).0, p.0 ∙ sym q.0)

  extern_type_code : PrefixCode EncodesExternType
  extern_type_code = then_prefix_code IsByte EncodesExternTypeAfterByte byte_prefix_code extern_type_after_byte_code

  named_code : PrefixCode EncodesNamed
  named_code = both_code EncodesName EncodesExternType (λ (p : List ℕ × ℕ). p) (name_code (numbers 32)) extern_type_code (λ p. p) (λ p. refl)

  pub import_code : PrefixCode EncodesImport
  import_code =
      both_code EncodesName EncodesNamed (λ (i : ImportParts). (i.module_name, (i.name, i.kind))) (name_code (numbers 32)) named_code
      (λ p. record { module_name = p.0; name = p.1.0; kind = p.1.1 }) (λ i. refl)

  module _ (small : DeterminesRefusal U32Fault) (large : DeterminesRefusal U64Fault) (reference : DeterminesRefusal RefTypeFault)
      (value : DeterminesRefusal ValTypeFault) where
    most_determines : (flags : ℕ) → DeterminesRefusal (MostFault flags)
    most_determines flags m k r a b p q = large m k r a b p.1 q.1

    bounds_determines : (flags : ℕ) → DeterminesRefusal (BoundsFault flags)
    bounds_determines flags = then_determines (EncodesUnsigned 64) U64Fault (λ least. MostFault flags) (numbers 64) large (λ least. most_determines flags)

    limits_determines : DeterminesRefusal LimitsFault
    limits_determines = then_determines IsByte EndFault BoundsFault byte_prefix_code end_determines bounds_determines

    extern_type_after_byte_determines : (byte : ℕ) → DeterminesRefusal (ExternTypeFaultAfterByte byte)
    extern_type_after_byte_determines zero = small
    extern_type_after_byte_determines (suc zero) = then_determines EncodesRefType RefTypeFault (λ ty. LimitsFault) references reference (λ ty. limits_determines)
    extern_type_after_byte_determines (suc (suc zero)) = limits_determines
    extern_type_after_byte_determines (suc (suc (suc zero))) = then_determines EncodesValType ValTypeFault (λ ty. EndFault) values value (λ ty. end_determines)
    extern_type_after_byte_determines (suc (suc (suc (suc zero)))) = then_determines IsByte EndFault (λ attribute. U32Fault) byte_prefix_code end_determines (λ attribute. small)
    extern_type_after_byte_determines (suc (suc (suc (suc (suc more))))) = λ m k r a b p q. absurd p

    extern_type_determines : DeterminesRefusal ExternTypeFault
    extern_type_determines = then_determines IsByte EndFault ExternTypeFaultAfterByte byte_prefix_code end_determines extern_type_after_byte_determines

    named_determines : DeterminesRefusal NamedFault
    named_determines = then_determines EncodesName NameFault (λ name. ExternTypeFault) (name_code (numbers 32)) (name_determines (numbers 32) small) (λ name. extern_type_determines)

    pub import_determines : DeterminesRefusal ImportFault
    import_determines = then_determines EncodesName NameFault (λ name. NamedFault) (name_code (numbers 32)) (name_determines (numbers 32) small) (λ name. named_determines)
