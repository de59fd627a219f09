-- What writing a module appends.
-- Specification: Binary Format, Modules.
use Rattle.std.specs.Prelude.{◌≡◌, ◌≢◌, ℕ, ◌⊎◌, List, [], ◌∷◌, ◌++◌, Result, Ok, Err}
use Rattle.wasm_below.specs.declared.features.WasmFeatures.{WasmFeatures}
use Rattle.wasm_below.specs.declared.malformed.Malformed.TheVariants as malformed
use Rattle.wasm_below.specs.declared.message.Message.{Message}
use Rattle.wasm_below.specs.declared.message.Message.TheVariants as message
use Rattle.wasm_below.specs.Source.{reader_of}
use Rattle.wasm_sections.specs.Module.{EncodesModule}
use Rattle.wasm_sections.specs.Section.{SectionParts}
use Rattle.wasm_write_grammars.specs.Writing.{Writes, Extends, MemberReason}
use Rattle.wasm_encode_modules.specs.RawSections.{RawSection, raw_section, SectionReason, BeginsAsModule}

-- The section has this id and these contents, wherever they are.
abbrev pub HasContents : WasmFeatures → SectionParts → RawSection → Type 0
HasContents features part s = (part.id ≡ s.id) × (start : ℕ) × (part.contents ≡ reader_of features start s.bytes)

-- The sections have these ids and contents, in this order.
abbrev pub HaveContents : WasmFeatures → List SectionParts → List RawSection → Type 0
HaveContents features [] [] = Unit {0}
HaveContents features [] (s ∷ ss) = ⊥
HaveContents features (part ∷ parts) [] = ⊥
HaveContents features (part ∷ parts) (s ∷ ss) = HasContents features part s × HaveContents features parts ss

-- The bytes, of which the first has this offset, are a module with these sections.
abbrev pub HoldsModule : WasmFeatures → ℕ → List ℕ → List RawSection → Type 0
HoldsModule features at text ss = (parts : List SectionParts) × HaveContents features parts ss × EncodesModule features at text parts

-- The section has no encoding, or its encoding begins as a module does.
abbrev pub ModuleReason : RawSection → Message → Type 0
ModuleReason s m = SectionReason s m ⊎ ((m ≡ message.Malformed malformed.SecondModule) × BeginsAsModule s)

-- A module with these sections was appended.
abbrev pub AppendsModule : List RawSection → List ℕ → List ℕ → Type 0
AppendsModule ss old new = (text : List ℕ) × (new ≡ old ++ text) × ((features : WasmFeatures) (at : ℕ) → HoldsModule features at text ss)

-- On `Ok`, a module with these sections was appended. On `Err`, nothing was appended, and a section has
-- a reason, or the vector can't grow.
abbrev pub WritesModule : {Y : Type 0} → List RawSection → Result Y Message → List ℕ → List ℕ → Type 0
WritesModule ss (Ok _) old new = AppendsModule ss old new
WritesModule ss (Err m) old new = (new ≡ old) × (m ≢ message.OutOfMemory → MemberReason ModuleReason ss m)

-- As `WritesModule`, but on `Err` bytes may have been appended.
abbrev pub AppendsSections : {Y : Type 0} → List RawSection → Result Y Message → List ℕ → List ℕ → Type 0
AppendsSections ss (Ok _) old new = AppendsModule ss old new
AppendsSections ss (Err m) old new = Extends old new × (m ≢ message.OutOfMemory → MemberReason ModuleReason ss m)

-- On `Ok`, a section was appended that does not begin as a module does.
abbrev pub AppendsNext : {Y : Type 0} → RawSection → Result Y Message → List ℕ → List ℕ → Type 0
AppendsNext s (Ok _) old new = (BeginsAsModule s → ⊥) × Writes raw_section s old new
AppendsNext s (Err m) old new = Extends old new × (m ≢ message.OutOfMemory → ModuleReason s m)
