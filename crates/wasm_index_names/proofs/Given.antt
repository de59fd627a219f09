-- Items, subsections and sections that give names one by one.
use Rattle.std.proofs.Common.{◌≡◌, ℕ, suc, ◌+◌, List, [], ◌∷◌, ◌++◌, length, Ok, false, inl, inr, refl, sym, subst, ap, ◌∙◌, arith}
use Rattle.std.proofs.lemmas.Bool.{false≢true}
use Rattle.wasm_below.specs.declared.features.WasmFeatures.{WasmFeatures}
use Rattle.wasm_below.specs.Source.{Reader, rest}
use Rattle.wasm_grammars.specs.Grammar.{Grammar, HasReadBy}
use Rattle.wasm_module.specs.Module.{SectionParts}
use Rattle.wasm_names.specs.declared.name.Name.{Name}
use Rattle.wasm_names.specs.Subsections.{NamesLeft, HasEnded, ReadsSubsection}
use Rattle.wasm_sections.specs.Items.{Counted, ItemsLeft, items_of}
use Rattle.wasm_index_names.specs.Giving.{Giving, ItemsOccur, AreGiven, GivesFirst, GivenNames}
use Rattle.wasm_index_names.specs.Sections.{GivesName, AreNamed, GivesSection, AreGivenBy}

module _ {S X : Type 0} (g : WasmFeatures → Grammar X) (gives : Giving S X) where
  occur_more : (r mid new : Reader) (xs : List X) (x : X) → ItemsOccur g r xs mid → HasReadBy (g mid.features) x mid new → ItemsOccur g r (xs ++ x ∷ []) new
  occur_more r mid new [] x e p = (new, subst (λ z. HasReadBy (g z.features) x z new) e p, refl)
  occur_more r mid new (y ∷ ys) x (z, q, more) p = (z, q, occur_more z mid new ys x more p)

  given_more : (xs : List X) (x : X) (old mid new : S) → AreGiven gives old xs mid → gives mid x new → AreGiven gives old (xs ++ x ∷ []) new
  given_more [] x old mid new is gave = (new, subst (λ z. gives z x new) is gave, refl)
  given_more (y ∷ ys) x old mid new (z, has, more) gave = (z, has, given_more ys x z mid new more gave)

  length_more : (xs : List X) (x : X) → length (xs ++ x ∷ []) ≡ length xs + 1
  length_more [] x = refl
  length_more (y ∷ ys) x = let e : suc (length ys + 1) ≡ suc (length ys) + 1 = omega arith in ap suc (length_more ys x) ∙ e

  pub gives_none : (s : Counted) (old : S) → GivesFirst g gives s (items_of s) old old
  gives_none s old = record { items = []; occur = refl; number = (let e : s.count ≡ 0 + s.count = omega arith in e); given = refl }

  pub gives_more : (s : Counted) (left less : ItemsLeft) (x : X) (old mid new : S) → GivesFirst g gives s left old mid → left.remaining ≡ less.remaining + 1 →
      HasReadBy (g left.reader.features) x left.reader less.reader → gives mid x new → GivesFirst g gives s less old new
  gives_more s left less x old mid new w one read gave = record {
    items = w.items ++ x ∷ [];
    occur = occur_more s.reader left.reader less.reader w.items x w.occur read;
    number = (let n = length_more w.items x in let m = w.number in omega (arith, n, m, one));
    given = given_more w.items x old mid new w.given gave;
  }

pub named_more : (r mid new : Reader) (ns : List Name) (n : Name) (old between after : GivenNames) → AreNamed r ns mid old between →
    ReadsSubsection (Ok n) mid new → GivesName n between after → AreNamed r (ns ++ n ∷ []) new old after
named_more r mid new [] n old between after (is, same) reads gives =
    (new, subst (λ z. ReadsSubsection (Ok n) z new) is reads, after, subst (λ z. GivesName n z after) same gives, (refl, refl))
named_more r mid new (m ∷ ms) n old between after (z, q, b, has, more) reads gives = (z, q, b, has, named_more z mid new ms n b between after more reads gives)

-- The names end where no data is left.
pub names_end : (s : NamesLeft) → s.refused ≡ false → HasEnded s → rest s.reader ≡ []
names_end s going (inl refused) = absurd (false≢true (sym going ∙ refused))
names_end s going (inr none) = none

pub sections_more : (ss : List SectionParts) (s : SectionParts) (old mid new : GivenNames) → AreGivenBy old ss mid → GivesSection s.id s.contents mid new →
    AreGivenBy old (ss ++ s ∷ []) new
sections_more [] s old mid new is gives = (new, subst (λ z. GivesSection s.id s.contents z new) is gives, refl)
sections_more (t ∷ ts) s old mid new (z, has, more) gives = (z, has, sections_more ts s z mid new more gives)

-- The section has this id and these contents.
pub at_section : (s : SectionParts) (id : ℕ) (contents : Reader) (old new : GivenNames) → id ≡ s.id → contents ≡ s.contents → GivesSection id contents old new →
    GivesSection s.id s.contents old new
at_section s id contents old new is_id is_contents gives =
    subst (λ z. GivesSection s.id z old new) is_contents (subst (λ z. GivesSection z contents old new) is_id gives)
