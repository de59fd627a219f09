use Rattle.std.specs.Prelude.{◌≡◌, Bool}
use Rattle.std.specs.Bool.{Decides}

-- The function returns true if and only if its arguments are equal.
abbrev pub IsExact : {A : Type 0} → (A → A → Bool) → Type 0
IsExact {A} E = (a b : A) → Decides (E a b) (a ≡ b)
