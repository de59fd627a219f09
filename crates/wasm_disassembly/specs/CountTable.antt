use Rattle.std.specs.Prelude.{◌==◌, ℕ, ◌+◌, ◌-◌, ◌^◌, List, [], ◌∷◌, ◌++◌, IsPermutation, IsSorted, codes, flat_map, if◌then◌else◌, slice_index_or}
use Rattle.std.specs.Fmt.{styled_decimal, format_spec}
use Rattle.std.specs.Ordering.{nat_cmp, ordering_then}
use Rattle.std.specs.declared.cmp.Ordering.{Ordering}
use Rattle.std.specs.declared.cmp.Reverse.{Reverse}
use Rattle.wasm_listing.specs.Census.{proposals}

-- A count, and its proposal's index in `proposals`.
abbrev pub Row : Type 0
Row = Reverse ℕ × ℕ

-- The counts above 0, each with its index, counted from `place`.
abbrev pub rows_from : ℕ → List ℕ → List Row
rows_from place [] = []
rows_from place (n ∷ ns) = (if n == 0 then [] else (record { 0 = n }, place) ∷ []) ++ rows_from (place + 1) ns

-- The larger count comes first; of equal counts, the first in the order of proposals.
abbrev pub row_cmp : Row → Row → Ordering
row_cmp a b = ordering_then (nat_cmp b.0.0 a.0.0) (nat_cmp a.1 b.1)

-- The rows of the counts that are not 0, the largest first.
pub record IsTable (counts : List ℕ) (rows : List Row) : Type 0 where
  pub same : IsPermutation (rows_from 0 counts) rows
  pub falls : IsSorted row_cmp rows

-- A number in decimal, aligned right in twelve columns.
abbrev pub at_right : ℕ → List ℕ
at_right n = styled_decimal (format_spec 32 3 0 12 (2 ^ 64 - 1)) n

-- A count, and the name of its proposal.
abbrev pub row_text : Row → List ℕ
row_text r = at_right r.0.0 ++ (codes " " ++ (slice_index_or proposals r.1 [] ++ codes "\n"))

abbrev pub table_text : List Row → List ℕ
table_text rows = flat_map row_text rows
