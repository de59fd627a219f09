use Rattle.std.proofs.Common.{◌≡◌, ◌+◌, Bool, true, false, Some, Result, Ok, sym, subst, ◌∙◌}
use Rattle.wasm_operators.specs.below.declared.error.Error.{Error}
use Rattle.wasm_operators.specs.below.FromReader.{EncodesReader, ReaderFault}
use Rattle.wasm_operators.specs.below.Source.{Reader, offset_of, end_of, HasRead}
use Rattle.wasm_operators.specs.Section.{SectionItems, StepsSection}
use Rattle.wasm_disassembly.specs.declared.listing_fault.Fault.{Fault}
use Rattle.wasm_disassembly.specs.declared.listing_fault.Fault.TheVariants as fault
use Rattle.wasm_disassembly.specs.Listing.{WhereAsked, IsHalt, IsLater}

pub asked_for : (A B : Type 0) (asked given : Bool) → asked ≡ given → asked ≡ true → A → WhereAsked given A B
asked_for A B asked given same is a = subst (λ b. WhereAsked b A B) (sym is ∙ same) a

pub not_asked_for : (A B : Type 0) (asked given : Bool) → asked ≡ given → asked ≡ false → B → WhereAsked given A B
not_asked_for A B asked given same is b = subst (λ b. WhereAsked b A B) (sym is ∙ same) b

pub item_read : (item : Result Reader Error) (body : Reader) (old new : SectionItems) → item ≡ Ok body →
    StepsSection (EncodesReader old.reader.features) ReaderFault (λ r. ⊥) (λ o b n. end_of b ≡ offset_of n) (Some item) old new →
    (old.refused ≡ false) × (new.refused ≡ false) × (old.remaining ≡ new.remaining + 1) ×
    HasRead (EncodesReader old.reader.features) body old.reader new.reader × (end_of body ≡ offset_of new.reader)
item_read item body old new is steps =
    subst (λ (x : Result Reader Error). StepsSection (EncodesReader old.reader.features) ReaderFault (λ r. ⊥) (λ o b n. end_of b ≡ offset_of n) (Some x) old new) is steps

pub asked_only : (A B : Type 0) (asked given : Bool) → asked ≡ given → asked ≡ true → WhereAsked given A B → A
asked_only A B asked given same is requested = subst (λ b. WhereAsked b A B) (sym same ∙ is) requested

pub halts_later : (f : Fault) → IsHalt f → IsLater f
halts_later (fault.Module _) h = h
halts_later (fault.NoFunction _) h = h
halts_later (fault.Section _) h = h
halts_later (fault.Code _) h = tt
halts_later fault.Writing h = h
halts_later fault.Memory h = h
