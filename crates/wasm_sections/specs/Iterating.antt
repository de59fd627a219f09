use Rattle.std.specs.Prelude.{◌≡◌, if◌then◌else◌, Bool, true, [], length, Option, None, Some, Result, is_err, ◌⊎◌}
use Rattle.std.specs.Iterator.{Count, at_most}
use Rattle.wasm_below.specs.declared.error.Error.{Error}
use Rattle.wasm_below.specs.Source.{Reader, rest}
use Rattle.wasm_sections.specs.Module.{ReadsSection}
use Rattle.wasm_sections.specs.Section.{SectionParts}

-- The reader before the next section, and whether an error was returned.
pub record Iterating : Type 0 where
  pub reader : Reader
  pub refused : Bool

-- An error was returned, or no data is left.
abbrev pub HasEnded : Iterating → Type 0
HasEnded i = (i.refused ≡ true) ⊎ (rest i.reader ≡ [])

-- A step: the next section was read, unless the iterator has ended.
abbrev pub StepsModule : Iterating → Option (Result SectionParts Error) → Iterating → Type 0
StepsModule old None new = HasEnded old × (new ≡ old)
StepsModule old (Some item) new = (HasEnded old → ⊥) × ReadsSection item old.reader new.reader × (new.refused ≡ is_err item)

-- At most as many sections as bytes are left, and none after an error.
abbrev pub sections_to_come : Iterating → Count
sections_to_come i = at_most (if i.refused then 0 else length (rest i.reader))
