-- Specification: Custom Sections, Name Section, Subsections.
use Rattle.std.specs.Prelude.{◌≡◌, ℕ, ◌<◌, ◌≤◌, ◌⊎◌, if◌then◌else◌, Bool, true, [], length, Option, Some, None, Result, Ok, Err, is_err}
use Rattle.std.specs.Iterator.{Count, at_most}
use Rattle.std.specs.declared.ops.Range.{Range}
use Rattle.wasm_below.specs.declared.error.Error.{Error}
use Rattle.wasm_below.specs.declared.malformed.Malformed.TheVariants as malformed
use Rattle.wasm_below.specs.declared.message.Message.TheVariants as message
use Rattle.wasm_below.specs.Source.{Reader, rest, offset_of, end_of}
use Rattle.wasm_externals.specs.Texts.{text}
use Rattle.wasm_grammars.specs.Grammar.{Encodes, HasReadBy}
use Rattle.wasm_grammars.specs.Parts.{u32}
use Rattle.wasm_grammars.specs.Reading.{Fails}
use Rattle.wasm_names.specs.declared.name.Name.{Name}
use Rattle.wasm_names.specs.declared.name.Name.TheVariants as name
use Rattle.wasm_sections.specs.Items.{Counted, FailsAll}
use Rattle.wasm_sections.specs.Section.{SectionParts, section}

-- The greatest id that has a meaning.
abbrev pub max_name_id : ℕ
max_name_id = 11

-- The number of names in a map was read, and no name.
abbrev pub Opens : Counted → Reader → Type 0
Opens map r = HasReadBy u32 map.count r map.reader

-- The offsets of the rest.
abbrev pub Covers : Range ℕ → Reader → Type 0
Covers range r = (range.start ≡ offset_of r) × (range.end ≡ end_of r)

-- The contents of the subsection with this id are the value.
--   namesec ::= .. modulenamesubsec? funcnamesubsec? localnamesubsec? ..; other ids: proposal Extended Name Section
abbrev pub IsName : ℕ → Name → Reader → Type 0
IsName id (name.Module n range) r = (id ≡ 0) × Encodes text (offset_of r) (rest r) n × Covers range r
IsName id (name.Function map) r = (id ≡ 1) × Opens map r
IsName id (name.Local map) r = (id ≡ 2) × Opens map r
IsName id (name.Label map) r = (id ≡ 3) × Opens map r
IsName id (name.Type map) r = (id ≡ 4) × Opens map r
IsName id (name.Table map) r = (id ≡ 5) × Opens map r
IsName id (name.Memory map) r = (id ≡ 6) × Opens map r
IsName id (name.Global map) r = (id ≡ 7) × Opens map r
IsName id (name.Element map) r = (id ≡ 8) × Opens map r
IsName id (name.Data map) r = (id ≡ 9) × Opens map r
IsName id (name.Field map) r = (id ≡ 10) × Opens map r
IsName id (name.Tag map) r = (id ≡ 11) × Opens map r
IsName id (name.Unknown ty bytes range) r = (max_name_id < id) × (ty ≡ id) × (bytes.now ≡ rest r) × Covers range r

-- The contents are no value: the error of the module's name, or of the number of names in a map.
abbrev pub FailsName : ℕ → Error → Reader → Type 0
FailsName id e r = ((id ≡ 0) × FailsAll text (message.Malformed malformed.NameContent) e r) ⊎ ((0 < id) × (id ≤ max_name_id) × Fails u32 (offset_of r) e r)

-- `Ok` if and only if the contents are a value, which is returned.
abbrev pub ReadsName : ℕ → Result Name Error → Reader → Type 0
ReadsName id (Ok n) r = IsName id n r
ReadsName id (Err e) r = FailsName id e r

-- The error of the subsection's framing, or of its contents.
abbrev pub FailsSubsection : Error → Reader → Type 0
FailsSubsection e r = Fails (section r.features) (offset_of r) e r ⊎ ((s : SectionParts) × (end : Reader) × HasReadBy (section r.features) s r end × FailsName s.id e s.contents)

-- `Ok` if and only if a subsection was read and consumed, and its contents are the value.
abbrev pub ReadsSubsection : Result Name Error → Reader → Reader → Type 0
ReadsSubsection (Ok n) old new = (s : SectionParts) × HasReadBy (section old.features) s old new × IsName s.id n s.contents
ReadsSubsection (Err e) old new = (new ≡ old) × FailsSubsection e old

-- The reader before the next subsection, and whether an error was returned.
pub record NamesLeft : Type 0 where
  pub reader : Reader
  pub refused : Bool

abbrev pub HasEnded : NamesLeft → Type 0
HasEnded s = (s.refused ≡ true) ⊎ (rest s.reader ≡ [])

-- A step: the next subsection was read, unless the iterator has ended.
abbrev pub StepsNames : NamesLeft → Option (Result Name Error) → NamesLeft → Type 0
StepsNames old None new = HasEnded old × (new ≡ old)
StepsNames old (Some item) new = (HasEnded old → ⊥) × ReadsSubsection item old.reader new.reader × (new.refused ≡ is_err item)

-- At most as many subsections as bytes are left, and none after an error.
abbrev pub names_to_come : NamesLeft → Count
names_to_come s = at_most (if s.refused then 0 else length (rest s.reader))
