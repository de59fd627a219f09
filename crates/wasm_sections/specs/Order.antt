-- Specification: Binary Format, Modules; Validation, Modules.
use Rattle.std.specs.Prelude.{◌≡◌, ◌==◌, ℕ, ◌<◌, ◌⊎◌, List, [], ◌∷◌, Option, Some, None, if◌then◌else◌}
use Rattle.wasm_below.specs.declared.malformed.Malformed.{Malformed}
use Rattle.wasm_below.specs.declared.malformed.Malformed.TheVariants as malformed

-- The place of sections with this id in a module, from 1; 0 for those that may be anywhere.
--   type, import, function, table, memory, tag, global, export, start, element, data count, code, data
abbrev pub place_of : ℕ → ℕ
place_of id =
    if id == 1 then 1 else if id == 2 then 2 else if id == 3 then 3 else if id == 4 then 4 else if id == 5 then 5 else if id == 13 then 6 else
    if id == 6 then 7 else if id == 7 then 8 else if id == 8 then 9 else if id == 9 then 10 else if id == 12 then 11 else if id == 10 then 12 else
    if id == 11 then 13 else 0

-- A section with this id may follow if the greatest place so far is `last`.
abbrev pub MayComeAfter : ℕ → ℕ → Type 0
MayComeAfter last id = (place_of id ≡ 0) ⊎ (last < place_of id)

-- The greatest place after a section that may follow.
abbrev pub place_after : ℕ → ℕ → ℕ
place_after last id = if place_of id == 0 then last else place_of id

-- The sections that have a place come in order, each at most once.
abbrev pub AreInOrder : ℕ → List ℕ → Type 0
AreInOrder last [] = Unit {0}
AreInOrder last (id ∷ ids) = MayComeAfter last id × AreInOrder (place_after last id) ids

-- The count, or 0 if the section is absent.
abbrev pub or_zero : Option ℕ → ℕ
or_zero None = 0
or_zero (Some n) = n

-- What is wrong with the counts of the function section and of the code section, if present.
abbrev pub functions_fault : Option ℕ → Option ℕ → Option Malformed
functions_fault (Some n) (Some m) = if n == m then None else Some malformed.FunctionCounts
functions_fault (Some n) None = if n == 0 then None else Some malformed.NoCode
functions_fault None (Some m) = if m == 0 then None else Some malformed.NoFunctions
functions_fault None None = None

-- What is wrong with the data count and the count of the data section, if present.
abbrev pub data_fault : Option ℕ → Option ℕ → Option Malformed
data_fault (Some n) (Some m) = if n == m then None else Some malformed.DataCounts
data_fault (Some n) None = if n == 0 then None else Some malformed.NoData
data_fault None m = None
