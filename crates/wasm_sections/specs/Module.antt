-- Specification: Binary Format, Modules.
use Rattle.std.specs.Prelude.{◌≡◌, ◌≢◌, ℕ, ◌+◌, ◌⊎◌, List, [], ◌∷◌, ◌++◌, length, Result, Ok, Err}
use Rattle.wasm_below.specs.declared.error.Error.{Error}
use Rattle.wasm_below.specs.declared.features.WasmFeatures.{WasmFeatures}
use Rattle.wasm_below.specs.declared.malformed.Malformed.TheVariants as malformed
use Rattle.wasm_below.specs.declared.message.Message.{Message}
use Rattle.wasm_below.specs.declared.message.Message.TheVariants as message
use Rattle.wasm_below.specs.Source.{Reader, rest, offset_of, NoPrefix}
use Rattle.wasm_grammars.specs.Grammar.{Encodes, Fault, HasReadBy}
use Rattle.wasm_grammars.specs.Reading.{Fails}
use Rattle.wasm_sections.specs.Preamble.{preamble}
use Rattle.wasm_sections.specs.Section.{SectionParts, section}

-- The bytes begin as a module does. No section begins so: a custom section of 97 bytes whose name
-- has 115 bytes is malformed.
abbrev pub BeginsModule : List ℕ → Type 0
BeginsModule bytes = (more : List ℕ) × (bytes ≡ 0x00 ∷ 0x61 ∷ 0x73 ∷ 0x6d ∷ more)

-- The bytes, of which the first has this offset, are these sections.
abbrev pub EncodesSections : WasmFeatures → ℕ → List ℕ → List SectionParts → Type 0
EncodesSections features at text [] = text ≡ []
EncodesSections features at text (s ∷ ss) = (first after : List ℕ) × (text ≡ first ++ after) × (BeginsModule text → ⊥) ×
    Encodes (section features) at first s × EncodesSections features (at + length first) after ss

-- The bytes, of which the first has this offset, are a preamble and these sections.
--   module ::= magic version (section)*
abbrev pub EncodesModule : WasmFeatures → ℕ → List ℕ → List SectionParts → Type 0
EncodesModule features at text sections = (first after : List ℕ) × (v : ℕ) × (text ≡ first ++ after) × Encodes preamble at first v ×
    EncodesSections features (at + length first) after sections

-- Between two readers, the bytes are these sections.
abbrev pub SectionsOccur : Reader → List SectionParts → Reader → Type 0
SectionsOccur r [] end = end ≡ r
SectionsOccur r (s ∷ ss) end = (mid : Reader) × (BeginsModule (rest r) → ⊥) × HasReadBy (section r.features) s r mid × SectionsOccur mid ss end

-- The error of a section: a module begins at its start, or its grammar's.
abbrev pub SectionFault : Message → Reader → ℕ → Type 0
SectionFault m r offset = (BeginsModule (rest r) × (m ≡ message.Malformed malformed.SecondModule) × (offset ≡ offset_of r)) ⊎
    ((BeginsModule (rest r) → ⊥) × NoPrefix (Encodes (section r.features) (offset_of r)) (rest r) × Fault (section r.features) (offset_of r) m r offset)

-- The error of the preamble, or of the first section that is in error.
abbrev pub ModuleFault : Message → Reader → ℕ → Type 0
ModuleFault m r offset = (NoPrefix (Encodes preamble (offset_of r)) (rest r) × Fault preamble (offset_of r) m r offset) ⊎
    ((v : ℕ) × (after : Reader) × HasReadBy preamble v r after × (sections : List SectionParts) × (end : Reader) × SectionsOccur after sections end ×
    (rest end ≢ []) × SectionFault m end offset)

-- No section begins here, and the error is its.
abbrev pub FailsSection : Error → Reader → Type 0
FailsSection e r = (BeginsModule (rest r) × (e.message ≡ message.Malformed malformed.SecondModule) × (e.offset ≡ offset_of r)) ⊎
    ((BeginsModule (rest r) → ⊥) × Fails (section r.features) (offset_of r) e r)

-- `Ok` if and only if the bytes begin with a section, which is returned and consumed. An error
-- consumes nothing.
abbrev pub ReadsSection : Result SectionParts Error → Reader → Reader → Type 0
ReadsSection (Ok s) old new = (BeginsModule (rest old) → ⊥) × HasReadBy (section old.features) s old new
ReadsSection (Err e) old new = (new ≡ old) × FailsSection e old

-- The bytes are no preamble and list of sections. The error is the first section's that has one.
pub record FailsModule (e : Error) (r : Reader) : Type 0 where
  pub none : (sections : List SectionParts) → EncodesModule r.features (offset_of r) (rest r) sections → ⊥
  pub fault : ModuleFault e.message r e.offset

-- `Ok` if and only if the rest is a module's preamble and sections, which are returned, unless
-- allocation fails.
abbrev pub ReadsModule : Result (List SectionParts) Error → Reader → Type 0
ReadsModule (Ok sections) r = EncodesModule r.features (offset_of r) (rest r) sections
ReadsModule (Err e) r = ((e.message ≡ message.OutOfMemory) × (e.offset ≡ offset_of r)) ⊎ ((e.message ≢ message.OutOfMemory) × FailsModule e r)
