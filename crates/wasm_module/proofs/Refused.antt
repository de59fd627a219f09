-- Errors of bytes as faults of a module.
use Rattle.std.proofs.Common.{◌≡◌, ◌<◌, ◌⊎◌, ℕ, List, [], length, Result, Ok, Err, refl, sym, subst, ◌∙◌, inl, inr}
use Rattle.std.specs.List.{All}
use Rattle.wasm_below.specs.declared.error.Error.{Error}
use Rattle.wasm_below.specs.declared.message.Message.{Message}
use Rattle.wasm_below.specs.declared.message.Message.TheVariants as message
use Rattle.wasm_below.specs.Number.{EncodesUnsigned}
use Rattle.wasm_below.specs.Refusal.{IsReadFault}
use Rattle.wasm_below.specs.Source.{Reader, rest, BeginsWith, HasRead, Reads}
use Rattle.wasm_module.specs.Module.{SectionParts}
use Rattle.wasm_module.specs.Types.{EncodesSubType, EncodesRecTypeLength, RecTypeLengthFault}
use Rattle.wasm_module.specs.declared.composite.CompositeType.{CompositeType}
use Rattle.wasm_module.specs.Faults.{fault_by, fault_of}
use Rattle.wasm_module.specs.Items.{ItemsOccur}
use Rattle.wasm_module.specs.Parameters.{AreKnownTypes, RecTypesOccur}
use Rattle.wasm_module.specs.Refusals.{HasSectionsTo, HasItemsTo, IsAny, HasSubTypesTo, AnnouncedFault, HasTypesTo}
use Rattle.wasm_module.specs.Sections.{BeginsModule, SectionsOccur}
use Rattle.wasm_module.specs.declared.fault.ModuleFault.{ModuleFault}
use Rattle.wasm_module.specs.declared.fault.ModuleFault.TheVariants as fault
use Rattle.wasm_module.proofs.RecTypes.{begins}

refused_by : (m : Message) (e : Error) → IsReadFault m → fault_by m e ≡ fault.Refused e
refused_by message.OutOfMemory e read = absurd read
refused_by _ e read = refl

pub of_refusal : (P : ModuleFault → Type 0) (e : Error) (f : ModuleFault) → f ≡ fault_of e → IsReadFault e.message → P (fault.Refused e) → P f
of_refusal P e f is read p = subst P (sym (is ∙ refused_by e.message e read)) p

pub any_items : {X : Type 0} (xs : List X) → All IsAny xs
any_items xs = λ k d few. tt

pub items_to : {X : Type 0} (P : List ℕ → X → Type 0) (K : X → Type 0) (contents first next : Reader) (n : ℕ) (xs : List X) →
    HasRead (EncodesUnsigned 32) n contents first → ItemsOccur P first xs next → length xs < n → All K xs → HasItemsTo P K contents next
items_to P K contents first next n xs count occur fewer known =
    record { first = first; announced = n; count = count; items = xs; occur = occur; fewer = fewer; known = known }

pub sections_to : (whole after next : Reader) (ss : List SectionParts) → BeginsModule whole after → SectionsOccur after ss next → (rest next ≡ [] → ⊥) →
    HasSectionsTo whole next
sections_to whole after next ss begins occur more = record { after = after; begins = begins; sections = ss; occur = occur; more = more }

pub sub_types_to : (n : ℕ) (r next : Reader) (types : List CompositeType) → ItemsOccur EncodesSubType r types next → length types < n → AreKnownTypes types →
    HasSubTypesTo n r next
sub_types_to n r next types occur fewer known = record { types = types; occur = occur; fewer = fewer; known = known }

pub types_to : (contents first next : Reader) (n : ℕ) (rec_types : List (List CompositeType)) → HasRead (EncodesUnsigned 32) n contents first →
    RecTypesOccur first rec_types next → length rec_types < n → All AreKnownTypes rec_types → HasTypesTo contents next
types_to contents first next n rec_types count occur fewer known =
    record { first = first; announced = n; count = count; rec_types = rec_types; occur = occur; fewer = fewer; known = known }

abbrev IsRead : Result ℕ Error → Type 0
IsRead (Ok n) = Unit {0}
IsRead (Err e) = ⊥

abbrev same : Result ℕ Error → Result ℕ Error → Type 0
same a b = a ≡ b

refused_beginning : (e : Error) (r new : Reader) → (BeginsWith 0x4e (rest r) → Reads EncodesRecTypeLength RecTypeLengthFault (Err e) r new) →
    ((BeginsWith 0x4e (rest r) → ⊥) → same (Err e) (Ok 1) × (new ≡ r)) → RecTypeLengthFault e.message r e.offset →
    BeginsWith 0x4e (rest r) ⊎ (BeginsWith 0x4e (rest r) → ⊥) → AnnouncedFault (fault.Refused e) r
refused_beginning e r new rec_type one is (inl here) = (here, ((rec_type here).1, is))
refused_beginning e r new rec_type one is (inr not) = absurd (subst IsRead (sym (one not).0) tt)

read_fault_by : (e : Error) (r new : Reader) → (BeginsWith 0x4e (rest r) → Reads EncodesRecTypeLength RecTypeLengthFault (Err e) r new) →
    ((BeginsWith 0x4e (rest r) → ⊥) → same (Err e) (Ok 1) × (new ≡ r)) → BeginsWith 0x4e (rest r) ⊎ (BeginsWith 0x4e (rest r) → ⊥) → IsReadFault e.message
read_fault_by e r new rec_type one (inl here) = (rec_type here).1.fault
read_fault_by e r new rec_type one (inr not) = absurd (subst IsRead (sym (one not).0) tt)

pub announced_refused : (e : Error) (f : ModuleFault) (r new : Reader) → (BeginsWith 0x4e (rest r) → Reads EncodesRecTypeLength RecTypeLengthFault (Err e) r new) →
    ((BeginsWith 0x4e (rest r) → ⊥) → same (Err e) (Ok 1) × (new ≡ r)) → RecTypeLengthFault e.message r e.offset → f ≡ fault_of e → AnnouncedFault f r
announced_refused e f r new rec_type one is reported =
    let occurs = begins 0x4e (rest r) in
    of_refusal (λ f. AnnouncedFault f r) e f reported (read_fault_by e r new rec_type one occurs) (refused_beginning e r new rec_type one is occurs)
