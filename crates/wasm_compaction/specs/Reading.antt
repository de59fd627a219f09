-- What reading a part of a module and appending what is in its place does to reader and vector.
use Rattle.std.specs.Prelude.{◌≡◌, ℕ, List, ◌++◌}
use Rattle.wasm_below.specs.FromReader.{EncodesReader}
use Rattle.wasm_below.specs.Source.{Reader, HasRead, offset_of, end_of}
use Rattle.wasm_compaction.specs.declared.custom.Choices.{Choices}
use Rattle.wasm_compaction.specs.Compaction.{CompactsBody, CompactsSection}

-- The size of a body and the body were read. What `CompactsBody` puts in their place was appended.
pub record ReadsBody (r s : Reader) (old new : List ℕ) : Type 0 where
  pub part : Reader
  pub reads : HasRead (EncodesReader r.features) part r s
  pub place : end_of part ≡ offset_of s
  pub other : List ℕ
  pub appended : new ≡ old ++ other
  pub compacts : CompactsBody r.features reads.0 other

-- What is in the place of the section `text` was appended.
abbrev pub AppendsSection : Choices → List ℕ → List ℕ → List ℕ → Type 0
AppendsSection c text old new = (other : List ℕ) × (new ≡ old ++ other) × CompactsSection c text other
