-- Texts that are written, completely or in part.
use Rattle.std.specs.Prelude.{◌≡◌, ◌⊎◌, ℕ, List, ◌++◌, Option, Result, Ok, Err}
use Rattle.std.specs.Io.KnownBytes.{Appends}
use Rattle.wasm_rows.specs.declared.fault.Fault.{Fault}
use Rattle.wasm_rows.specs.declared.fault.Fault.TheVariants as fault

-- A prefix of the text is appended.
abbrev pub AppendsPart : Option (List ℕ) → Option (List ℕ) → List ℕ → Type 0
AppendsPart old new text = (written left : List ℕ) × (text ≡ written ++ left) × Appends old new written

-- Writing fails in the text, or allocation before it.
abbrev pub HaltsIn : List ℕ → Fault → Option (List ℕ) → Option (List ℕ) → Type 0
HaltsIn text fault.Writing old new = AppendsPart old new text
HaltsIn text fault.Memory old new = new ≡ old
HaltsIn text (fault.Section e) old new = ⊥

-- The text is appended, unless writing or allocation fails.
abbrev pub WritesText : {X : Type 0} → List ℕ → Result X Fault → Option (List ℕ) → Option (List ℕ) → Type 0
WritesText text (Ok x) old new = Appends old new text
WritesText text (Err f) old new = HaltsIn text f old new

-- The text is appended, and what `Rest` says follows.
abbrev pub WritesThen : {X : Type 0} → List ℕ → (Result X Fault → Option (List ℕ) → Option (List ℕ) → Type 0) → Result X Fault → Option (List ℕ) →
    Option (List ℕ) → Type 0
WritesThen text Rest (Ok x) old new = (mid : Option (List ℕ)) × Appends old mid text × Rest (Ok x) mid new
WritesThen text Rest (Err f) old new = HaltsIn text f old new ⊎ ((mid : Option (List ℕ)) × Appends old mid text × Rest (Err f) mid new)

-- Writing or allocation failed.
abbrev pub IsHalt : Fault → Type 0
IsHalt (fault.Section e) = ⊥
IsHalt f = Unit {0}

-- A text of several pieces is appended, or a prefix of it if writing or allocation fails.
abbrev pub WritesPieces : {X : Type 0} → List ℕ → Result X Fault → Option (List ℕ) → Option (List ℕ) → Type 0
WritesPieces text (Ok x) old new = Appends old new text
WritesPieces text (Err f) old new = IsHalt f × AppendsPart old new text
