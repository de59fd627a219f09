-- Why a module is not compacted.
-- Specification: Binary Format, Modules: Sections, Custom Section, Code Section, Modules.
use Rattle.std.specs.Prelude.{◌≡◌, ◌≢◌, ◌⊎◌, ℕ, ◌<◌, List, [], length, Some, Err}
use Rattle.wasm_below.specs.declared.error.Error.{Error}
use Rattle.wasm_below.specs.declared.message.Message.TheVariants as message
use Rattle.wasm_below.specs.Features.{all_features}
use Rattle.wasm_below.specs.FromReader.{EncodesReader, ReaderFault}
use Rattle.wasm_below.specs.Number.{EncodesUnsigned}
use Rattle.wasm_below.specs.Source.{Reader, rest, offset_of, U32Fault, HasRead, reader_of}
use Rattle.wasm_operators.specs.Body.{StopsBody}
use Rattle.wasm_operators.specs.Expression.{Placed}
use Rattle.wasm_operators.specs.Locals.{Declaration, LocalsLeft, OpensLocals, StepsLocals, HasStepped}
use Rattle.wasm_module.specs.declared.fault.ModuleFault.TheVariants as module_fault
use Rattle.wasm_module.specs.Bodies.{BodiesOccur}
use Rattle.wasm_module.specs.Module.{SectionParts, EncodesSection}
use Rattle.wasm_module.specs.Names.{EncodesName, NameFault}
use Rattle.wasm_module.specs.Refusals.{IsRefusedAs, HasSectionsTo, SectionsFault}
use Rattle.wasm_compaction.specs.declared.custom.Choices.{Choices}
use Rattle.wasm_compaction.specs.declared.custom.CustomKind.{CustomKind}
use Rattle.wasm_compaction.specs.declared.fault.CompactionFault.{CompactionFault}
use Rattle.wasm_compaction.specs.declared.fault.CompactionFault.TheVariants as fault
use Rattle.wasm_compaction.specs.Compaction.{IsNamed, IsKept, IsDropped}
use Rattle.wasm_compaction.specs.Custom.{custom_kind}

-- The number of declarations of locals is in error, or a declaration is: its number, its type, or more
-- than `max_locals` locals in all.
abbrev pub RefusesDeclarations : Error → Reader → Type 0
RefusesDeclarations e body = OpensLocals (Err e) body ⊎ ((declarations : List Declaration) × (old new : LocalsLeft) × HasStepped declarations body old × StepsLocals (Some (Err e)) old new)

-- Unless allocation failed, reading the declarations stops at this error, or reading the operators.
abbrev pub RefusesBody : Error → Reader → Type 0
RefusesBody e body = e.message ≢ message.OutOfMemory → RefusesDeclarations e body ⊎ ((placed : Placed) × StopsBody e body placed)

-- The size of the body with this index is in error, or the body; or allocation failed.
abbrev pub RefusesNext : ℕ → CompactionFault → Reader → Type 0
RefusesNext index (fault.Refused e) r = IsRefusedAs (EncodesReader r.features) ReaderFault e r
RefusesNext index (fault.Body i e) r =
    (i ≡ index) × (part after : Reader) × HasRead (EncodesReader r.features) part r after × (e.message ≢ message.OutOfMemory) × RefusesBody e part
RefusesNext index fault.Memory r = Unit {0}
RefusesNext index _ r = ⊥

-- The second reader is after the number of bodies, which is `count`, and the first `n` bodies.
pub record IsAfterBodies (count n : ℕ) (contents next : Reader) : Type 0 where
  pub first : Reader
  pub counted : HasRead (EncodesUnsigned 32) count contents first
  pub bodies : List Reader
  pub occur : BodiesOccur first bodies next
  pub as_many : length bodies ≡ n

-- Data follows the bodies: this error, at the first byte.
abbrev pub LeavesData : Error → Reader → Type 0
LeavesData e r = (rest r ≢ []) × (e ≡ record { message = message.DataAfterSection; offset = offset_of r })

-- The size of the next body is in error, or the body; or allocation failed.
abbrev pub RefusesAfter : CompactionFault → Reader → Type 0
RefusesAfter f contents = (count n : ℕ) × (next : Reader) × IsAfterBodies count n contents next × (n < count) × RefusesNext n f next

-- Data follows the bodies.
abbrev pub RefusesEnd : Error → Reader → Type 0
RefusesEnd e contents = (count : ℕ) × (next : Reader) × IsAfterBodies count count contents next × LeavesData e next

-- The number of bodies, the size of a body or a body is in error, or data follows the bodies; or
-- allocation failed.
abbrev pub RefusesCode : CompactionFault → Reader → Type 0
RefusesCode (fault.Refused e) contents = IsRefusedAs (EncodesUnsigned 32) U32Fault e contents ⊎ (RefusesEnd e contents ⊎ RefusesAfter (fault.Refused e) contents)
RefusesCode f contents = RefusesAfter f contents ⊎ (f ≡ fault.Memory)

-- The custom section can be neither kept nor dropped. The number is the offset of its name.
pub record RefusesName (c : Choices) (k : CustomKind) (offset : ℕ) (contents : Reader) : Type 0 where
  pub name : List ℕ
  pub named : IsNamed (rest contents) name
  pub is_kind : k ≡ custom_kind name
  pub kept : ¬ IsKept c name
  pub dropped : ¬ IsDropped c name
  pub is_offset : offset ≡ offset_of contents

-- The name of the custom section is in error, or the section can be neither kept nor dropped.
abbrev pub RefusesCustom : Choices → CompactionFault → Reader → Type 0
RefusesCustom c (fault.Refused e) contents = IsRefusedAs EncodesName NameFault e contents
RefusesCustom c (fault.Custom k offset) contents = RefusesName c k offset contents
RefusesCustom c _ contents = ⊥

-- The contents of a code section or a custom section are refused; or allocation failed.
abbrev pub RefusesSection : Choices → CompactionFault → SectionParts → Type 0
RefusesSection c f s = ((s.id ≡ 10) × RefusesCode f s.contents) ⊎ (((s.id ≡ 0) × RefusesCustom c f s.contents) ⊎ (f ≡ fault.Memory))

-- The section with this property is preceded by sections of the module.
abbrev pub AtSection : Reader → (SectionParts → Type 0) → Type 0
AtSection whole P = (next after : Reader) × (s : SectionParts) × HasSectionsTo whole next × HasRead (EncodesSection next.features) s next after × P s

-- The preamble or a section is in error; or a section is refused; or allocation failed.
abbrev pub RefusesModule : Choices → CompactionFault → List ℕ → Type 0
RefusesModule c (fault.NotModule k) bytes = SectionsFault (module_fault.NotModule k) (reader_of all_features 0 bytes)
RefusesModule c (fault.Refused e) bytes =
    SectionsFault (module_fault.Refused e) (reader_of all_features 0 bytes) ⊎ AtSection (reader_of all_features 0 bytes) (RefusesSection c (fault.Refused e))
RefusesModule c fault.Memory bytes = Unit {0}
RefusesModule c f bytes = AtSection (reader_of all_features 0 bytes) (RefusesSection c f)
