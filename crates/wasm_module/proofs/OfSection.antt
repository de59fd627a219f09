use Rattle.std.proofs.Common.{ℕ, Option, Some, Result, subst, inr}
use Rattle.std.specs.Int.{w32}
use Rattle.std.specs.Prelude.{IfErr}
use Rattle.std.proofs.lemmas.Result.{IfErr-weaker}
use Rattle.wasm_below.specs.Number.{EncodesUnsigned, EncodesFixed}
use Rattle.wasm_below.specs.Sequence.{PrefixCode}
use Rattle.wasm_below.specs.Source.{Reader}
use Rattle.wasm_module.specs.declared.fault.ModuleFault.{ModuleFault}
use Rattle.wasm_module.specs.Refusals.{SectionFaultAt}
use Rattle.wasm_module.specs.Sections.{IsSection}
use Rattle.wasm_module.proofs.Unique.{one_found}

module _ (numbers : PrefixCode (EncodesUnsigned 32)) (fixed : PrefixCode (EncodesFixed w32)) where
  pub of_section : {X Y : Type 0} (P : Option Reader → Y → Type 0) (C : ModuleFault → Type 0) (whole : Reader) (id : ℕ) (contents : Reader)
      (r : Result X ModuleFault) → IsSection whole id (Some contents) → IfErr r (λ fault. (y : Y) → P (Some contents) y → C fault) →
      IfErr r (λ fault. (section : Option Reader) → (y : Y) → IsSection whole id section → P section y → C fault)
  of_section {X} {Y} P C whole id contents r here refused =
      IfErr-weaker r (λ fault. (y : Y) → P (Some contents) y → C fault)
      (λ fault. (section : Option Reader) → (y : Y) → IsSection whole id section → P section y → C fault)
      (λ fault f section y there is. f y (subst (λ s. P s y) (one_found numbers fixed whole id section (Some contents) there here) is)) refused

  pub of_two : {X Y Z : Type 0} (P : Option Reader → Y → Z → Type 0) (whole : Reader) (id : ℕ) (contents : Reader) (r : Result X ModuleFault) →
      IsSection whole id (Some contents) → IfErr r (λ fault. (y : Y) → (z : Z) → P (Some contents) y z → ⊥) →
      IfErr r (λ fault. (section : Option Reader) → (y : Y) → (z : Z) → IsSection whole id section → P section y z → ⊥)
  of_two {X} {Y} {Z} P whole id contents r here refused =
      IfErr-weaker r (λ fault. (y : Y) → (z : Z) → P (Some contents) y z → ⊥)
      (λ fault. (section : Option Reader) → (y : Y) → (z : Z) → IsSection whole id section → P section y z → ⊥)
      (λ fault f section y z there is. f y z (subst (λ s. P s y z) (one_found numbers fixed whole id section (Some contents) there here) is)) refused

pub fault_at : {X : Type 0} (Fault : ModuleFault → Reader → Type 0) (whole : Reader) (id : ℕ) (contents : Reader) (r : Result X ModuleFault) →
    IsSection whole id (Some contents) → IfErr r (λ fault. Fault fault contents) → IfErr r (λ fault. SectionFaultAt fault whole id Fault)
fault_at Fault whole id contents r here refused =
    IfErr-weaker r (λ fault. Fault fault contents) (λ fault. SectionFaultAt fault whole id Fault) (λ fault is. inr (contents, here, is)) refused
