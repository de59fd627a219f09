-- Items that are read and written one by one.
use Rattle.std.proofs.Common.{◌≡◌, ℕ, suc, ◌+◌, List, [], ◌∷◌, ◌++◌, length, Option, Result, Ok, Err, inr, refl, subst, ap, ◌∙◌, arith}
use Rattle.std.specs.Io.KnownBytes.{Appends}
use Rattle.wasm_below.specs.declared.features.WasmFeatures.{WasmFeatures}
use Rattle.wasm_below.specs.Source.{Reader}
use Rattle.wasm_grammars.specs.Grammar.{Grammar, HasReadBy}
use Rattle.wasm_grammars.specs.Parts.{u32}
use Rattle.wasm_sections.specs.Items.{Counted, ItemsLeft, items_of}
use Rattle.wasm_rows.specs.declared.fault.Fault.{Fault}
use Rattle.wasm_details.specs.declared.place.Place.{Place}
use Rattle.wasm_details.specs.Items.{Listing, ItemsOccur, AreWritten, WritesItems, ListsItems, ListsSection, title_text}

module _ {X : Type 0} (g : WasmFeatures → Grammar X) (lists : Listing X) where
  occur_more : (r mid new : Reader) (xs : List X) (x : X) → ItemsOccur g r xs mid → HasReadBy (g mid.features) x mid new → ItemsOccur g r (xs ++ x ∷ []) new
  occur_more r mid new [] x e p = (new, subst (λ z. HasReadBy (g z.features) x z new) e p, refl)
  occur_more r mid new (y ∷ ys) x (z, q, more) p = (z, q, occur_more z mid new ys x more p)

  written_more : (first p next : Place) (xs : List X) (x : X) (old mid new : Option (List ℕ)) → AreWritten lists first xs p old mid → lists p x (Ok next) mid new →
      AreWritten lists first (xs ++ x ∷ []) next old new
  written_more first p next [] x old mid new (is, same) wrote =
      (next, new, subst (λ z. lists first x (Ok next) z new) same (subst (λ q. lists q x (Ok next) mid new) is wrote), (refl, refl))
  written_more first p next (y ∷ ys) x old mid new (q, between, has, more) wrote =
      (q, between, has, written_more q p next ys x between mid new more wrote)

  length_more : (xs : List X) (x : X) → length (xs ++ x ∷ []) ≡ length xs + 1
  length_more [] x = refl
  length_more (y ∷ ys) x = let e : suc (length ys + 1) ≡ suc (length ys) + 1 = omega arith in ap suc (length_more ys x) ∙ e

  pub writes_none : (s : Counted) (first : Place) (old : Option (List ℕ)) → WritesItems g lists s first first (items_of s) old old
  writes_none s first old = record { items = []; occur = refl; number = (let e : s.count ≡ 0 + s.count = omega arith in e); written = (refl, refl) }

  pub writes_more : (s : Counted) (first now next : Place) (left less : ItemsLeft) (x : X) (old mid new : Option (List ℕ)) →
      WritesItems g lists s first now left old mid → left.remaining ≡ less.remaining + 1 → HasReadBy (g left.reader.features) x left.reader less.reader →
      lists now x (Ok next) mid new → WritesItems g lists s first next less old new
  writes_more s first now next left less x old mid new w one read wrote = record {
    items = w.items ++ x ∷ [];
    occur = occur_more s.reader left.reader less.reader w.items x w.occur read;
    number = (let n = length_more w.items x in let m = w.number in omega (arith, n, m, one));
    written = written_more first now next w.items x old mid new w.written wrote;
  }

  -- The items after a title.
  pub section_listed : (title : List ℕ) (contents : Reader) (first : Place) (s : Counted) (r : Result Place Fault) (old titled new : Option (List ℕ)) →
      HasReadBy u32 s.count contents s.reader → Appends old titled (title_text title s.count) → ListsItems g lists s first r titled new →
      ListsSection g lists title contents first r old new
  section_listed title contents first s (Ok next) old titled new read wrote listed = (s, read, (titled, wrote, listed))
  section_listed title contents first s (Err f) old titled new read wrote listed = inr (s, read, inr (titled, wrote, listed))
