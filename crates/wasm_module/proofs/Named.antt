use Rattle.std.proofs.Common.{◌≡◌, ℕ, List, [], ◌∷◌, ◌++◌, length, refl, ap, sym, ◌∙◌, arith}
use Rattle.wasm_below.specs.declared.error.Error.{Error}
use Rattle.wasm_below.specs.Fault.{DeterminesRefusal}
use Rattle.wasm_below.specs.Number.{EncodesUnsigned}
use Rattle.wasm_below.specs.Sequence.{PrefixCode}
use Rattle.wasm_below.specs.Source.{Reader, IsByte, IsBlock, EndFault, EndsWithin, U32Fault}
use Rattle.wasm_below.specs.Ahead.{Fails}
use Rattle.wasm_module.specs.Exports.{ExportParts, EncodesExternIndex, ExternIndexFault, EncodesExport, ExportFault}
use Rattle.wasm_module.specs.Names.{IsBytes, EncodesName, NameFault, NameParts, EncodesNameAssociation, NameAssociationFault}
use Rattle.wasm_below.proofs.Ahead.{fails_as}
use Rattle.wasm_below.proofs.DeterminedRefusals.{then_determines, end_determines}
use Rattle.wasm_below.proofs.PrefixCode.{byte_prefix_code}
use Rattle.wasm_below.proofs.Sequences.{then_prefix_code}
use Rattle.wasm_module.proofs.Sequences.{both_code}

pub short_determines : (n : ℕ) → DeterminesRefusal (EndsWithin n)
short_determines n m k r a b h q = (h.0 ∙ sym q.0, h.1 ∙ sym q.1)

pub bytes_refused : (n : ℕ) {e : Error} {old : Reader} → Fails (IsBlock n) (EndsWithin n) e old → Fails (IsBytes n) (EndsWithin n) e old
bytes_refused n =
    fails_as (IsBlock n) (IsBytes n) (EndsWithin n) (EndsWithin n) (λ text z b. (record { ref_ptr = (0, 0); now = text }, (refl, b.1))) (λ f. f)

bytes_code : (n : ℕ) → PrefixCode (IsBytes n)
bytes_code n a b x y m k p q e = let same = same_start a b x y (p.1 ∙ sym q.1) e in (same, p.0 ∙ same ∙ sym q.0)
  where
    same_start : (a b x y : List ℕ) → length a ≡ length b → a ++ x ≡ b ++ y → a ≡ b
    same_start [] [] x y h e = refl
    same_start [] (d ∷ b) x y h e = absurd (omega (arith, h))
    same_start (c ∷ a) [] x y h e = absurd (omega (arith, h))
    same_start (c ∷ a) (d ∷ b) x y h e = let same : c ≡ d = cc e in ap (λ z. z ∷ a) same ∙ ap (λ zs. d ∷ zs) (same_start a b x y (omega (arith, h)) (cc e))

module _ (numbers : PrefixCode (EncodesUnsigned 32)) where
  pub name_code : PrefixCode EncodesName
  name_code = then_prefix_code (EncodesUnsigned 32) IsBytes numbers bytes_code

  pub association_code : PrefixCode EncodesNameAssociation
  association_code =
      both_code (EncodesUnsigned 32) EncodesName (λ (a : NameParts). (a.index, a.name)) numbers name_code (λ p. record { index = p.0; name = p.1 }) (λ a. refl)

  extern_code : PrefixCode EncodesExternIndex
  extern_code = both_code IsByte (EncodesUnsigned 32) (λ (p : ℕ × ℕ). p) byte_prefix_code numbers (λ p. p) (λ p. refl)

  pub export_code : PrefixCode EncodesExport
  export_code =
      both_code EncodesName EncodesExternIndex (λ (e : ExportParts). (e.name, (e.kind, e.index))) name_code extern_code
      (λ p. record { name = p.0; kind = p.1.0; index = p.1.1 }) (λ e. refl)

  module _ (small : DeterminesRefusal U32Fault) where
    pub name_determines : DeterminesRefusal NameFault
    name_determines = then_determines (EncodesUnsigned 32) U32Fault EndsWithin numbers small short_determines

    pub association_determines : DeterminesRefusal NameAssociationFault
    association_determines = then_determines (EncodesUnsigned 32) U32Fault (λ index. NameFault) numbers small (λ index. name_determines)

    pub export_determines : DeterminesRefusal ExportFault
    export_determines =
        then_determines EncodesName NameFault (λ name. ExternIndexFault) name_code name_determines
        (λ name. then_determines IsByte EndFault (λ kind. U32Fault) byte_prefix_code end_determines (λ kind. small))
