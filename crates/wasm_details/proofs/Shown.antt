-- Sections that are read and shown one by one.
use Rattle.std.proofs.Common.{◌≡◌, ℕ, List, [], ◌∷◌, ◌++◌, Option, Result, Ok, Err, inr, refl, subst}
use Rattle.std.specs.Io.KnownBytes.{Appends}
use Rattle.wasm_below.specs.declared.features.WasmFeatures.{WasmFeatures}
use Rattle.wasm_below.specs.Source.{Reader, offset_of, end_of, reader_of, HasRead}
use Rattle.wasm_module.specs.Module.{SectionParts, EncodesSection}
use Rattle.wasm_module.specs.Sections.{BeginsModule, SectionsOccur}
use Rattle.wasm_rows.specs.declared.fault.Fault.{Fault}
use Rattle.wasm_details.specs.declared.place.Imported.{Imported}
use Rattle.wasm_details.specs.declared.place.Place.{Place}
use Rattle.wasm_grammars.specs.Grammar.{Grammar}
use Rattle.wasm_details.specs.Constants.{Constants, Shows}
use Rattle.wasm_index_names.specs.Known.{ModuleNames}
use Rattle.wasm_details.specs.Contents.{first_place, ListsContents}
use Rattle.wasm_index_names.specs.Known.{AreNames}
use Rattle.wasm_rows.specs.Contents.{IsNameOf}
use Rattle.wasm_details.specs.Module.{ListsChosen, AreListed, none_imported, ShowsDetails, ListsDetails, heading_of, ListsModule}

-- What the law `next_section` states of sections and the next.
abbrev pub OfNext : Type 0
OfNext = (first : Reader) (sections : List SectionParts) (mid new : Reader) (next : SectionParts) → SectionsOccur first sections mid →
    HasRead (EncodesSection mid.features) next mid new → end_of next.contents ≡ offset_of new → SectionsOccur first (sections ++ next ∷ []) new

abbrev pub constants_of : {X : Type 0} → (WasmFeatures → Grammar X) → Shows X → Constants X
constants_of grammar shows = record { grammar = grammar; shows = shows }

module _ {X : Type 0} (k : Constants X) (names : ModuleNames) (asked : Option (List ℕ)) where
  listed_more : (i j : Imported) (ss : List SectionParts) (s : SectionParts) (p : Place) (old mid new : Option (List ℕ)) → AreListed k names asked i ss j old mid →
      ListsChosen k names asked s (first_place s.id j) (Ok p) mid new → AreListed k names asked i (ss ++ s ∷ []) p.imported old new
  listed_more i j [] s p old mid new (is, same) lists =
      (p, new, subst (λ z. ListsChosen k names asked s (first_place s.id i) (Ok p) z new) same (subst (λ q. ListsChosen k names asked s (first_place s.id q) (Ok p) mid new) is lists), (refl, refl))
  listed_more i j (t ∷ ts) s p old mid new (q, between, has, more) lists = (q, between, has, listed_more q.imported j ts s p between mid new more lists)

  pub shows_none : (first : Reader) (old : Option (List ℕ)) → ShowsDetails k names asked first first none_imported old old
  shows_none first old = record { sections = []; occur = refl; listed = (refl, refl) }

  pub shows_more : OfNext → (first mid new : Reader) (s : SectionParts) (j : Imported) (p : Place) (old between after : Option (List ℕ)) →
      ShowsDetails k names asked first mid j old between → HasRead (EncodesSection mid.features) s mid new → end_of s.contents ≡ offset_of new →
      ListsChosen k names asked s (first_place s.id j) (Ok p) between after → ShowsDetails k names asked first new p.imported old after
  shows_more one_more first mid new s j p old between after h reads placed lists = record {
    sections = h.sections ++ s ∷ [];
    occur = one_more first h.sections mid new s h.occur reads placed;
    listed = listed_more none_imported j h.sections s p old between after h.listed lists;
  }

  -- The section has this place.
  pub at_place : (s : SectionParts) (p q : Place) (r : Result Place Fault) (old new : Option (List ℕ)) → p ≡ q → ListsChosen k names asked s p r old new →
      ListsChosen k names asked s q r old new
  at_place s p q r old new is lists = subst (λ z. ListsChosen k names asked s z r old new) is lists

  -- The section has this id and these contents.
  pub at_section : (s : SectionParts) (id : ℕ) (contents : Reader) (p : Place) (r : Result Place Fault) (old new : Option (List ℕ)) →
      id ≡ s.id → contents ≡ s.contents → ListsContents k names id contents p r old new → ListsContents k names s.id s.contents p r old new
  at_section s id contents p r old new is_id is_contents lists =
      subst (λ z. ListsContents k names s.id z p r old new) is_contents (subst (λ z. ListsContents k names z contents p r old new) is_id lists)

pub module_listed : {X Y : Type 0} (k : Constants X) (features : WasmFeatures) (file asked : Option (List ℕ)) (bytes : List ℕ) (r : Result Y Fault) (after : Reader)
    (name : List ℕ) (names : ModuleNames) (old titled new : Option (List ℕ)) → BeginsModule (reader_of features 0 bytes) after →
    IsNameOf (reader_of features 0 bytes) name → AreNames features bytes names → Appends old titled (heading_of file name) →
    ListsDetails k names asked after r titled new → ListsModule k features file asked bytes r old new
module_listed k features file asked bytes (Ok x) after name names old titled new begins named are title lists =
    record { after = after; begins = begins; name = name; is_name = named; names = names; are_names = are; lists = (titled, title, lists) }
module_listed k features file asked bytes (Err f) after name names old titled new begins named are title lists =
    inr (record { after = after; begins = begins; name = name; is_name = named; names = names; are_names = are; lists = inr (titled, title, lists) })
