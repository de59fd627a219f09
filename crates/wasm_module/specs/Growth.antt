-- Vectors that grow one item at a time.
use Rattle.std.specs.Prelude.{◌≡◌, ◌⊎◌, ℕ, ◌+◌, ◌*◌, ◌≤◌, List, length}

-- The items, and how many there is space for.
pub record Growing (X : Type 0) : Type 0 where
  pub items : List X
  pub capacity : ℕ

-- There is space for at most twice the items, and 4.
abbrev pub HasLittleSpace : {X : Type 0} → List X → ℕ → Type 0
HasLittleSpace items capacity = capacity ≤ 2 * length items + 4

-- The space is as before; or all of it was used, and it at least doubles.
abbrev pub DoublesIfFull : {X : Type 0} → Growing X → Growing X → Type 0
DoublesIfFull old new =
    (new.capacity ≡ old.capacity) ⊎ ((old.capacity ≡ length old.items) × (2 * old.capacity ≤ new.capacity))
