-- A loop over an iterator of sections.
use Rattle.std.proofs.Common.{◌≡◌, ℕ, inl, inr, false, List, [], ◌∷◌, ◌++◌, refl, sym, ◌∙◌}
use Rattle.std.proofs.lemmas.Bool.{false≢true}
use Rattle.wasm_below.specs.declared.error.Error.{Error}
use Rattle.wasm_below.specs.declared.message.Message.TheVariants as message
use Rattle.wasm_below.specs.Source.{Reader, rest, offset_of}
use Rattle.wasm_grammars.specs.Grammar.{HasReadBy}
use Rattle.wasm_sections.specs.Iterating.{Iterating, HasEnded}
use Rattle.wasm_sections.specs.Module.{BeginsModule, EncodesModule, SectionsOccur, FailsSection, FailsModule}
use Rattle.wasm_sections.specs.Preamble.{preamble}
use Rattle.wasm_sections.specs.Section.{SectionParts, section}
use Rattle.wasm_sections.proofs.Framing.{module_all, module_fails, one_more}

-- These sections were found in the module.
pub record HasFound (r : Reader) (items : Iterating) (found : List SectionParts) : Type 0 where
  pub version : ℕ
  pub after : Reader
  pub begins : HasReadBy preamble version r after
  pub occur : SectionsOccur after found items.reader
  pub going : items.refused ≡ false

pub found_first : (r : Reader) (items : Iterating) (v : ℕ) → items.refused ≡ false → HasReadBy preamble v r items.reader → HasFound r items []
found_first r items v going begins = record { version = v; after = items.reader; begins = begins; occur = refl; going = going }

pub found_next : (r : Reader) (old new : Iterating) (found : List SectionParts) (s : SectionParts) → HasFound r old found → (BeginsModule (rest old.reader) → ⊥) →
    HasReadBy (section old.reader.features) s old.reader new.reader → new.refused ≡ false → HasFound r new (found ++ s ∷ [])
found_next r old new found s h free read going =
    record { version = h.version; after = h.after; begins = h.begins; occur = one_more h.after old.reader new.reader found s h.occur free read; going = going }

pub found_all : (r : Reader) (items : Iterating) (found : List SectionParts) → HasFound r items found → HasEnded items → EncodesModule r.features (offset_of r) (rest r) found
found_all r items found h (inl refused) = absurd (false≢true (sym h.going ∙ refused))
found_all r items found h (inr none) = module_all r h.after items.reader h.version found h.begins h.occur none

pub found_fault : (r : Reader) (items : Iterating) (found : List SectionParts) (e : Error) → HasFound r items found → (HasEnded items → ⊥) → FailsSection e items.reader →
    (e.message ≡ message.OutOfMemory → ⊥) × FailsModule e r
found_fault r items found e h going fails =
    module_fails r h.after items.reader h.version found e h.begins h.occur (λ none. going (inr none)) fails
