use Rattle.std.specs.Prelude.{◌≡◌, ℕ, List, ◌++◌}

-- An encoding of the pair's first value followed by an encoding of its second.
abbrev pub Both : {X Y : Type 0} → (List ℕ → X → Type 0) → (List ℕ → Y → Type 0) → List ℕ → X × Y → Type 0
Both P Q text pair = (first second : List ℕ) × (text ≡ first ++ second) × P first pair.0 × Q second pair.1
