-- Names by index. Specification: Modules, Indices.
use Rattle.std.specs.Prelude.{◌==◌, ℕ, ◌+◌, ◌-◌, ◌^◌, List, [], ◌∷◌, ◌++◌, length, min, nat_lt, replicate, set, slice_index_or, if◌then◌else◌}

-- The name of the thing with this index; empty if it has none.
abbrev pub name_at : List (List ℕ) → ℕ → List ℕ
name_at names index = slice_index_or names index []

-- At least `n` items: a list, and after it `empty`.
abbrev pub padded : {X : Type 0} → X → ℕ → List X → List X
padded empty n items = items ++ replicate (n - length items) empty

-- The list with this item at an index below `limit`; those that are missing before it are `empty`.
abbrev pub placed : {X : Type 0} → X → ℕ → List X → ℕ → X → List X
placed empty limit items index item = if nat_lt index limit then set (padded empty (index + 1) items) index item else items

-- Names by index, with the index of the next thing that is imported. Indices from `limit` on have no
-- names.
pub record NamesByIndex : Type 0 where
  pub names : List (List ℕ)
  pub limit : ℕ
  pub next : ℕ

-- The names after the thing with this index got a name.
abbrev pub with_name : NamesByIndex → ℕ → List ℕ → NamesByIndex
with_name l index name = record { names = placed [] l.limit l.names index name; limit = l.limit; next = l.next }

-- The index after this one; at most 4294967295.
abbrev pub after_index : ℕ → ℕ
after_index index = min (index + 1) (2 ^ 32 - 1)

-- The names after a thing with this name was imported.
abbrev pub with_import : NamesByIndex → List ℕ → NamesByIndex
with_import l name = record { names = placed [] l.limit l.names l.next name; limit = l.limit; next = after_index l.next }

-- A local's index in its function, and its name.
pub record LocalParts : Type 0 where
  pub index : ℕ
  pub name : List ℕ

-- The first name of the local with this index; empty if it has none.
abbrev pub local_at : List LocalParts → ℕ → List ℕ
local_at [] index = []
local_at (l ∷ ls) index = if l.index == index then l.name else local_at ls index

-- The names of the locals of each function, by its index.
pub record LocalsByFunction : Type 0 where
  pub functions : List (List LocalParts)
  pub limit : ℕ

-- The names of the locals of the function with this index.
abbrev pub locals_of : List (List LocalParts) → ℕ → List LocalParts
locals_of functions index = slice_index_or functions index []

-- The names after the function with this index got names of locals.
abbrev pub with_locals : LocalsByFunction → ℕ → List LocalParts → LocalsByFunction
with_locals l index names = record { functions = placed [] l.limit l.functions index names; limit = l.limit }
