use Rattle.std.specs.Prelude.{◌≡◌, ℕ, List, ◌++◌}

-- An encoding of some x, then one of y, which depends on x.
abbrev pub Then : {X Y : Type 0} → (List ℕ → X → Type 0) → (X → List ℕ → Y → Type 0) → List ℕ → Y → Type 0
Then {X} P Q text y = (first rest : List ℕ) × (x : X) × (text ≡ first ++ rest) × P first x × Q x rest y

-- No encoding is a proper prefix of another, and each encoding has one value.
abbrev pub PrefixCode : {X : Type 0} → (List ℕ → X → Type 0) → Type 0
PrefixCode {X} P = (a b x y : List ℕ) (m n : X) → P a m → P b n → a ++ x ≡ b ++ y → (a ≡ b) × (m ≡ n)

-- A prefix code in which `same` relates any two values of one encoding.
abbrev pub PrefixCodeUpTo : {X : Type 0} → (X → X → Type 0) → (List ℕ → X → Type 0) → Type 0
PrefixCodeUpTo {X} same P = (a b x y : List ℕ) (m n : X) → P a m → P b n → a ++ x ≡ b ++ y → (a ≡ b) × same m n
