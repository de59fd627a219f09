use Rattle.std.proofs.Common.{◌≡◌, ℕ, ◌-◌, Bool, List, [], length, Option, Some, None, Result, Ok, Err, IfErr, sym, subst, inr}
use Rattle.wasm_operators.specs.below.declared.error.Error.{Error}
use Rattle.wasm_operators.specs.below.declared.features.WasmFeatures.{WasmFeatures}
use Rattle.wasm_operators.specs.below.Source.{Reader, rest, reader_of, IsRefusal}
use Rattle.wasm_module.specs.Module.{SectionParts, EncodesSection, SectionFault}
use Rattle.wasm_module.specs.Refusals.{SectionsFault}
use Rattle.wasm_module.specs.Sections.{BeginsModule, SectionsOccur, IsModule}
use Rattle.wasm_module.specs.declared.fault.ModuleFault.{ModuleFault}
use Rattle.wasm_module.specs.declared.fault.ModuleFault.TheVariants as whole_fault
use Rattle.wasm_disassembly.specs.Cut.{IsCut, IsFirstCut, before_cut, after_cut}
use Rattle.wasm_disassembly.specs.Listing.{IsModuleOf, IsFunction, Succeeds, WritesNothing}
use Rattle.wasm_disassembly.specs.declared.listing_fault.Fault.{Fault}
use Rattle.wasm_disassembly.specs.declared.listing_fault.Fault.TheVariants as fault

abbrev NoFault : Type 0
NoFault = (whole : Reader) → (fault : ModuleFault) → (sections : List SectionParts) → SectionsFault fault whole → IsModule whole sections → ⊥

pub cut_at : (whole after next : Reader) (ss : List SectionParts) (e : Error) (n : ℕ) → BeginsModule whole after → SectionsOccur after ss next → (rest next ≡ [] → ⊥) →
    IsRefusal (EncodesSection next.features) e next → SectionFault e.message next e.offset → n ≡ length (rest whole) - length (rest next) → IsCut whole n e
cut_at whole after next ss e n begins occur more refused fault is =
    (next, record { after = after; begins = begins; sections = ss; occur = occur; more = more }, (refused, fault), is)

pub no_cut_before : (whole : Reader) → ((after : Reader) → BeginsModule whole after → ⊥) → IsFirstCut whole None
no_cut_before whole begins n e (next, has, refused, is) = begins has.after has.begins

pub no_cut_in : NoFault → (whole after end : Reader) (ss : List SectionParts) → BeginsModule whole after → SectionsOccur after ss end → rest end ≡ [] →
    IsFirstCut whole None
no_cut_in none whole after end ss begins occur all n e (next, has, refused, is) =
    none whole (whole_fault.Refused e) ss (inr (next, has, refused)) (record { after = after; begins = begins; end = end; occur = occur; all = all })

pub no_cut_of : NoFault → (Is : Reader → Type 0) (features : WasmFeatures) (only : Option ℕ) (bytes : List ℕ) (n : ℕ) (e : Error) →
    IsCut (reader_of features 0 bytes) n e → IsModuleOf Is features only bytes → ⊥
no_cut_of none Is features only bytes n e (next, has, refused, is) h =
    let (sections, is_module, found) = h.opens.is_code in
    none (reader_of features 0 bytes) (whole_fault.Refused e) sections (inr (next, has, refused)) is_module

pub succeeds_uncut : NoFault → (features : WasmFeatures) (only : Option ℕ) (bytes : List ℕ) (cut : Option (ℕ × Error)) (listed result : Result Bool Fault) →
    IsFirstCut (reader_of features 0 bytes) cut → result ≡ after_cut cut listed →
    (IsModuleOf IsFunction features only (before_cut cut bytes) → Succeeds listed) → IsModuleOf IsFunction features only bytes → Succeeds result
succeeds_uncut none features only bytes None listed result uncut is whole h = subst Succeeds (sym is) (whole h)
succeeds_uncut none features only bytes (Some (n, e)) listed result cut is whole h = absurd (no_cut_of none IsFunction features only bytes n e cut h)

pub nothing_after : {X : Type 0} (old new : X) (cut : Option (ℕ × Error)) (listed result : Result Bool Fault) → result ≡ after_cut cut listed →
    IfErr listed (λ f. WritesNothing f → new ≡ old) → IfErr result (λ f. WritesNothing f → new ≡ old)
nothing_after old new None listed result is nothing = subst (λ r. IfErr r (λ f. WritesNothing f → new ≡ old)) (sym is) nothing
nothing_after old new (Some cut) (Ok whole) result is nothing = subst (λ r. IfErr r (λ f. WritesNothing f → new ≡ old)) (sym is) (λ w. absurd w)
nothing_after old new (Some cut) (Err (fault.NoFunction i)) result is nothing = subst (λ r. IfErr r (λ f. WritesNothing f → new ≡ old)) (sym is) (λ w. absurd w)
nothing_after old new (Some cut) (Err (fault.Module f)) result is nothing = subst (λ r. IfErr r (λ f. WritesNothing f → new ≡ old)) (sym is) nothing
nothing_after old new (Some cut) (Err (fault.Section e)) result is nothing = subst (λ r. IfErr r (λ f. WritesNothing f → new ≡ old)) (sym is) nothing
nothing_after old new (Some cut) (Err (fault.Code e)) result is nothing = subst (λ r. IfErr r (λ f. WritesNothing f → new ≡ old)) (sym is) nothing
nothing_after old new (Some cut) (Err fault.Writing) result is nothing = subst (λ r. IfErr r (λ f. WritesNothing f → new ≡ old)) (sym is) nothing
nothing_after old new (Some cut) (Err fault.Memory) result is nothing = subst (λ r. IfErr r (λ f. WritesNothing f → new ≡ old)) (sym is) nothing
