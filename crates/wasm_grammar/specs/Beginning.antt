-- Specification: Binary Format and Structure, Expressions.
use Rattle.std.specs.Prelude.{◌≡◌, List, ◌++◌}
use Rattle.wasm_grammar.specs.Role.{Role}
use Rattle.wasm_grammar.specs.Tree.{Expression, walk}

-- The roles are the walk of an expression.
abbrev pub IsWalk : {A : Type 0} → List (Role A) → Type 0
IsWalk {A} roles = (tree : Expression A) × (roles ≡ walk tree)

-- The roles are the walk of this expression and of no other.
abbrev pub IsOnlyTree : {A : Type 0} → List (Role A) → Expression A → Type 0
IsOnlyTree {A} roles tree = (roles ≡ walk tree) × ((other : Expression A) → roles ≡ walk other → other ≡ tree)

-- The roles begin the walk of an expression.
abbrev pub BeginsWalk : {A : Type 0} → List (Role A) → Type 0
BeginsWalk {A} roles = (more : List (Role A)) × (tree : Expression A) × (roles ++ more ≡ walk tree)
