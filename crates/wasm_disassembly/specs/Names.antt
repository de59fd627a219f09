-- Functions by name.
use Rattle.std.specs.Prelude.{ℕ, List, nat_eq, Option, map}
use Rattle.std.specs.Cmp.Lexicographic.{pointwise}
use Rattle.std.specs.List.{position_from}
use Rattle.wasm_escapes.specs.Escapes.{escaped}

-- The index of the first of these names that is `name`.
abbrev pub first_named : List (List ℕ) → List ℕ → Option ℕ
first_named names name = position_from (λ n. pointwise nat_eq n name) 0 names

-- Each name as shown.
abbrev pub all_escaped : List (List ℕ) → List (List ℕ)
all_escaped names = map escaped names
