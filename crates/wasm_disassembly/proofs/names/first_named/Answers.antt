use Rattle.std.proofs.Common.{◌≡◌, ℕ, ◌+◌, Bool, List, [], ◌∷◌, Some, String, Global, nat_eq, map, string_bytes, cond, refl, ap, ◌∙◌, rules, tests}
use Rattle.std.proofs.lemmas.Iterator.{YieldsList-from_slice}
use Rattle.std.proofs.lemmas.Iterator.Adapters.{position_from-zero}
use Rattle.std.proofs.lemmas.Iterator.Search.{position_from_yields_List}
use Rattle.std.specs.Cmp.Lexicographic.{pointwise}
use Rattle.std.specs.List.{position_from}
use Rattle.wasm_disassembly.proofs.names.first_named.Goals as goal

-- A test of the items' images.
position_mapped : {X Y : Type 0} (f : X → Y) (test : Y → Bool) (i : ℕ) (xs : List X) → position_from (λ x. test (f x)) i xs ≡ position_from test i (map f xs)
position_mapped f test i [] = refl
position_mapped f test i (x ∷ xs) = ap (λ found. cond (test (f x)) (Some i) found) (position_mapped f test (i + 1) xs)

pub returns : goal.returns
returns c =
    let names = c.args.names.now in
    let is_named : List ℕ → Bool = λ n. pointwise nat_eq n c.args.name.now in
    let bytes : String Global → List ℕ = λ s. string_bytes s in
    position_from_yields_List (λ s. is_named (bytes s)) _ _ c.position.result c.position.ensures.ran (YieldsList-from_slice names cc)
    (λ x b q k. search (rules, tests)) ∙
    position_from-zero (λ s. is_named (bytes s)) names ∙ position_mapped bytes is_named 0 names
