-- Specification: Binary Format, Modules.
use Rattle.std.specs.Prelude.{◌≡◌, ◌==◌, ℕ, List, [], ◌∷◌, Option, Some, None, if◌then◌else◌}
use Rattle.wasm_below.specs.Source.{Reader, rest, offset_of, end_of, HasRead}
use Rattle.wasm_module.specs.Module.{EncodesPreamble, preamble_kind, SectionParts, EncodesSection}
use Rattle.wasm_module.specs.declared.preamble.Preamble.{Preamble}
use Rattle.wasm_module.specs.declared.preamble.PreambleKind.TheVariants as kind

-- The sections between two readers. Their contents count offsets as the module does.
abbrev pub SectionsOccur : Reader → List SectionParts → Reader → Type 0
SectionsOccur r [] end = end ≡ r
SectionsOccur r (s ∷ ss) end = (mid : Reader) × HasRead (EncodesSection r.features) s r mid × (end_of s.contents ≡ offset_of mid) × SectionsOccur mid ss end

-- The second reader is after the preamble of a module.
pub record BeginsModule (whole after : Reader) : Type 0 where
  pub preamble : Preamble
  pub begins : HasRead EncodesPreamble preamble whole after
  pub is : preamble_kind preamble ≡ kind.Module

-- The bytes are the preamble of a module and these sections.
pub record IsModule (whole : Reader) (sections : List SectionParts) : Type 0 where
  pub after : Reader
  pub begins : BeginsModule whole after
  pub end : Reader
  pub occur : SectionsOccur after sections end
  pub all : rest end ≡ []

abbrev pub first_with : ℕ → List SectionParts → Option Reader
first_with id [] = None
first_with id (s ∷ ss) = if s.id == id then Some s.contents else first_with id ss

-- The contents of a module's first section with this number, if any.
abbrev pub IsSection : Reader → ℕ → Option Reader → Type 0
IsSection whole id found = (sections : List SectionParts) × IsModule whole sections × (found ≡ first_with id sections)

abbrev pub or_first : Option Reader → SectionParts → ℕ → Option Reader
or_first (Some found) s id = Some found
or_first None s id = first_with id (s ∷ [])
