-- Subsections of names that are read and shown one by one.
use Rattle.std.proofs.Common.{◌≡◌, ℕ, List, [], ◌∷◌, ◌++◌, Option, Result, Ok, Err, inl, inr, false, refl, sym, subst, ◌∙◌}
use Rattle.std.proofs.lemmas.Bool.{false≢true}
use Rattle.wasm_below.specs.Source.{Reader, rest}
use Rattle.wasm_names.specs.declared.name.Name.{Name}
use Rattle.wasm_names.specs.Subsections.{NamesLeft, HasEnded, ReadsSubsection}
use Rattle.wasm_rows.specs.declared.fault.Fault.{Fault}
use Rattle.wasm_details.specs.declared.place.Place.{Place}
use Rattle.std.specs.Io.KnownBytes.{Appends}
use Rattle.wasm_externals.specs.Texts.{text}
use Rattle.wasm_grammars.specs.Grammar.{HasReadBy}
use Rattle.wasm_details.specs.Contents.{is_name, ListsCustomData, ListsCustom}
use Rattle.wasm_details.specs.Names.{ListsName, AreNamed}
use Rattle.wasm_details.specs.Namings.{custom_text}

pub named_more : (place : Place) (r mid new : Reader) (ns : List Name) (n : Name) (p : Place) (old between after : Option (List ℕ)) → AreNamed place r ns mid old between →
    ReadsSubsection (Ok n) mid new → ListsName n place (Ok p) between after → AreNamed place r (ns ++ n ∷ []) new old after
named_more place r mid new [] n p old between after (is, same) reads lists =
    (new, subst (λ z. ReadsSubsection (Ok n) z new) is reads, p, after, subst (λ z. ListsName n place (Ok p) z after) same lists, (refl, refl))
named_more place r mid new (m ∷ ms) n p old between after (z, q, o, b, has, more) reads lists =
    (z, q, o, b, has, named_more place z mid new ms n p b between after more reads lists)

-- The names end where no data is left.
pub names_end : (s : NamesLeft) → s.refused ≡ false → HasEnded s → rest s.reader ≡ []
names_end s going (inl refused) = absurd (false≢true (sym going ∙ refused))
names_end s going (inr none) = none

-- The data after the title of a custom section.
pub custom_listed : (contents after : Reader) (name : List ℕ) (place : Place) (r : Result Place Fault) (old titled new : Option (List ℕ)) →
    HasReadBy text name contents after → Appends old titled (custom_text name) → ListsCustomData (is_name name) after place r titled new →
    ListsCustom contents place r old new
custom_listed contents after name place (Ok next) old titled new read wrote lists = (name, after, read, (titled, wrote, lists))
custom_listed contents after name place (Err f) old titled new read wrote lists = inr (name, after, read, inr (titled, wrote, lists))
