use Rattle.std.specs.Prelude.{ℕ, ◌/◌, ◌%◌, ◌==◌, Bool, Option, Some, None}
use Rattle.wasm_grammars.specs.Grammar.{Grammar, done, bind, choose}
use Rattle.wasm_grammars.specs.Parts.{u32}

-- The number has the bit of this weight.
abbrev pub has_flag : ℕ → ℕ → Bool
has_flag flags weight = flags / weight % 2 == 1

-- An index if the flags announce one.
abbrev pub index_if : Bool → Grammar (Option ℕ)
index_if present = choose present (bind u32 (λ index. done (Some index))) (done None)
