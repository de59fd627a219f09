-- Locals in runs of one type, each with the index after its last.
use Rattle.std.specs.Prelude.{◌≡◌, ℕ, zero, suc, ◌-◌, ◌<◌, ◌≤◌, List, [], ◌∷◌, ◌++◌, replicate, Some}
use Rattle.wasm_below.specs.declared.types.ValType.{ValType}
use Rattle.wasm_typing.specs.Rules.{at}
use Rattle.wasm_check_locals.specs.declared.runs.Run.{Run}

-- The types of the locals in these runs, of which the first starts at an index.
abbrev pub types_from : ℕ → List Run → List ValType
types_from start [] = []
types_from start (r ∷ rs) = replicate (r.end - start) r.ty ++ types_from r.end rs

-- The first run starts at this index, and none ends before its start.
abbrev pub AreRuns : ℕ → List Run → Type 0
AreRuns start [] = Unit {0}
AreRuns start (r ∷ rs) = (start ≤ r.end) × AreRuns r.end rs

-- The runs before the one at `low` end before or at the index.
abbrev pub EndBefore : List Run → ℕ → ℕ → Type 0
EndBefore runs zero index = Unit {0}
EndBefore runs (suc low) index = (r : Run) × (at runs low ≡ Some r) × (r.end ≤ index)

-- The run at `high` ends after the index, if there is one.
abbrev pub EndsAfter : List Run → ℕ → ℕ → Type 0
EndsAfter runs high index = (r : Run) → at runs high ≡ Some r → index < r.end
