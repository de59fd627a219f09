-- Lists that are padded with empty items.
use Rattle.std.proofs.Common.{◌≡◌, ℕ, ◌+◌, ◌-◌, ◌≤◌, String, Global, List, [], ◌∷◌, ◌++◌, length, map, replicate, set, string_bytes, sym, ap, ◌∙◌, append_assoc, length-append, arith}
use Rattle.std.proofs.lemmas.List.{map-append, map-set, length-map, length-replicate, replicate-append-replicate}
use Rattle.wasm_index_names.specs.Lists.{padded}

pub item_next : {X : Type 0} (before now : List X) (empty : X) (n : ℕ) → now ≡ before ++ replicate n empty → now ++ empty ∷ [] ≡ before ++ replicate (n + 1) empty
item_next before now empty n is =
    ap (λ z. z ++ empty ∷ []) is ∙ append_assoc before (replicate n empty) (empty ∷ []) ∙ ap (λ z. before ++ z) (replicate-append-replicate n 1 empty)

abbrev names_of : List (String Global) → List (List ℕ)
names_of names = map string_bytes names

pub name_next : (before now : List (String Global)) (s : String Global) (n : ℕ) → string_bytes s ≡ [] →
    map string_bytes now ≡ map string_bytes before ++ replicate n [] → map string_bytes (now ++ s ∷ []) ≡ map string_bytes before ++ replicate (n + 1) []
name_next before now s n none is =
    map-append string_bytes now (s ∷ []) ∙ ap (λ y. names_of now ++ y ∷ []) none ∙ item_next (names_of before) (names_of now) [] n is

-- The names that are missing.
pub missing_names : (names : List (String Global)) (number : ℕ) →
    map string_bytes names ++ replicate (number - length names) [] ≡ padded [] number (map string_bytes names)
missing_names names number = ap (λ n. names_of names ++ replicate (number - n) []) (sym (length-map names string_bytes))

-- A padded list is as long as it should be.
pub items_long : {X : Type 0} (items now : List X) (empty : X) (n : ℕ) → now ≡ padded empty n items → n ≤ length now
items_long items now empty n is =
    let all = ap length is in
    let sum = length-append items (replicate (n - length items) empty) in
    let more = length-replicate (n - length items) empty in
    omega (arith, all, sum, more)

pub names_long : (names : List (List ℕ)) (now : List (String Global)) (n : ℕ) → map string_bytes now ≡ padded [] n names → n ≤ length now
names_long names now n is = let long = items_long names (names_of now) [] n is in let same = length-map now string_bytes in omega (arith, long, same)

pub name_set : (names : List (String Global)) (index : ℕ) (s : String Global) → map string_bytes (set names index s) ≡ set (map string_bytes names) index (string_bytes s)
name_set names index s = map-set string_bytes names index s
