-- The names in a set of texts.
use Rattle.std.proofs.Common.{◌≡◌, ℕ, Bool, ◌||◌, List, [], ◌∷◌, map, String, Ordering, Less, Equal, Greater, refl, ap, ◌∙◌}
use Rattle.std.specs.BTreeMap.{is_at}
use Rattle.std.specs.BTreeSet.{insert_key}
use Rattle.std.specs.List.{list_any}
use Rattle.std.specs.Ordering.{nat_cmp, match_ordering}
use Rattle.std.specs.Cmp.Lexicographic.{slice_cmp}
use Rattle.std.specs.Str.{bytes_eq}
use Rattle.std.specs.String.{string_bytes, string_cmp}
use Rattle.std.proofs.lemmas.Map.Text.{is_eq-slice_cmp}
use Rattle.wasm_context.specs.Names.{has_name, with_name}

-- The names of texts and of one more text.
pub names_with : {Y : Type 0} (texts : List (String Y)) (t : String Y) → map string_bytes (insert_key string_cmp texts t) ≡ with_name (map string_bytes texts) (string_bytes t)
names_with [] t = refl
names_with {Y} (x ∷ texts) t = placed (string_cmp t x) (names_with texts t)
  where
    placed : (o : Ordering) → map string_bytes (insert_key string_cmp texts t) ≡ with_name (map string_bytes texts) (string_bytes t)
        → map string_bytes (match_ordering o (t ∷ x ∷ texts) (x ∷ texts) (x ∷ insert_key string_cmp texts t))
        ≡ match_ordering o (string_bytes t ∷ string_bytes x ∷ map string_bytes texts) (string_bytes x ∷ map string_bytes texts) (string_bytes x ∷ with_name (map string_bytes texts) (string_bytes t))
    placed Less e = refl
    placed Equal e = refl
    placed Greater e = ap (λ names. string_bytes x ∷ names) e

-- A text has the name.
pub names_have : {Y : Type 0} (texts : List (String Y)) (name : List ℕ) → list_any (is_at (λ k. slice_cmp nat_cmp name (string_bytes k))) texts ≡ has_name (map string_bytes texts) name
names_have [] name = refl
names_have (x ∷ texts) name = ap (λ b. b || list_any (is_at (λ k. slice_cmp nat_cmp name (string_bytes k))) texts) (is_eq-slice_cmp name (string_bytes x)) ∙
    ap (λ b. bytes_eq name (string_bytes x) || b) (names_have texts name)
