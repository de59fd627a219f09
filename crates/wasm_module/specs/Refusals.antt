-- Specification: Binary Format, Lists; Types, Recursive Types; Modules.
use Rattle.std.specs.Prelude.{◌≡◌, ◌≢◌, ◌⊎◌, ◌<◌, ℕ, List, [], length, Option, Some}
use Rattle.std.specs.List.{All}
use Rattle.wasm_below.specs.declared.error.Error.{Error}
use Rattle.wasm_below.specs.declared.message.Message.{Message}
use Rattle.wasm_below.specs.Number.{EncodesUnsigned}
use Rattle.wasm_below.specs.Source.{Reader, rest, offset_of, BeginsWith, U32Fault, IsRefusal, HasRead}
use Rattle.wasm_module.specs.Exports.{EncodesExport, ExportFault}
use Rattle.wasm_module.specs.Imports.{ImportParts, EncodesImport, ImportFault}
use Rattle.wasm_module.specs.Module.{EncodesPreamble, PreambleFault, preamble_kind, SectionParts, EncodesSection, SectionFault}
use Rattle.wasm_module.specs.Types.{EncodesSubType, SubTypeFault, EncodesRecTypeLength, RecTypeLengthFault}
use Rattle.wasm_module.specs.declared.composite.CompositeType.{CompositeType}
use Rattle.wasm_module.specs.declared.composite.CompositeType.TheVariants as composite
use Rattle.wasm_module.specs.declared.preamble.Preamble.{Preamble}
use Rattle.wasm_module.specs.declared.preamble.PreambleKind.{PreambleKind}
use Rattle.wasm_module.specs.declared.preamble.PreambleKind.TheVariants as kind
use Rattle.wasm_module.specs.Items.{ItemsOccur}
use Rattle.wasm_module.specs.Parameters.{IsKnownType, AreKnownTypes, Announces, RecTypesOccur, CountsParameters}
use Rattle.wasm_module.specs.Sections.{BeginsModule, SectionsOccur, IsSection}
use Rattle.wasm_module.specs.ModuleFunctions.{IsKnownImport, CountsImports, ListsTypes}
use Rattle.wasm_module.specs.declared.fault.ModuleFault.{ModuleFault}
use Rattle.wasm_module.specs.declared.fault.ModuleFault.TheVariants as fault

-- No prefix of the rest encodes a value, and the error has the fault.
abbrev pub IsRefusedAs : {X : Type 0} → (List ℕ → X → Type 0) → (Message → Reader → ℕ → Type 0) → Error → Reader → Type 0
IsRefusedAs Encodes Fault e r = IsRefusal Encodes e r × Fault e.message r e.offset

-- The fault is an error of the bytes, for which this holds.
abbrev pub FailsWith : (Error → Type 0) → ModuleFault → Type 0
FailsWith Holds (fault.Refused e) = Holds e
FailsWith Holds _ = ⊥

-- The preamble identifies this kind of binary.
abbrev pub BeginsAs : PreambleKind → Reader → Type 0
BeginsAs said whole = (preamble : Preamble) × (after : Reader) × HasRead EncodesPreamble preamble whole after × (preamble_kind preamble ≡ said)

-- The bytes before the second reader are the preamble of a module and sections. More bytes follow.
pub record HasSectionsTo (whole next : Reader) : Type 0 where
  pub after : Reader
  pub begins : BeginsModule whole after
  pub sections : List SectionParts
  pub occur : SectionsOccur after sections next
  pub more : rest next ≢ []

-- The preamble identifies something else or is in error, or the next section is in error.
abbrev pub SectionsFault : ModuleFault → Reader → Type 0
SectionsFault (fault.NotModule said) whole = BeginsAs said whole × (said ≢ kind.Module)
SectionsFault (fault.Refused e) whole =
    IsRefusedAs EncodesPreamble PreambleFault e whole ⊎
    ((next : Reader) × HasSectionsTo whole next × IsRefusedAs (EncodesSection next.features) SectionFault e next)
SectionsFault _ whole = ⊥

-- The bytes before the second reader are items, all known, but not all that the list declares.
pub record HasItemsTo {X : Type 0} (Encodes : List ℕ → X → Type 0) (IsKnown : X → Type 0) (contents next : Reader) : Type 0 where
  pub first : Reader
  pub announced : ℕ
  pub count : HasRead (EncodesUnsigned 32) announced contents first
  pub items : List X
  pub occur : ItemsOccur Encodes first items next
  pub fewer : length items < announced
  pub known : All IsKnown items

-- The number of items is in error, or the next item.
abbrev pub ListFault : {X : Type 0} → (List ℕ → X → Type 0) → (Message → Reader → ℕ → Type 0) → (X → Type 0) → Error → Reader → Type 0
ListFault Encodes Fault IsKnown e contents =
    IsRefusedAs (EncodesUnsigned 32) U32Fault e contents ⊎ ((next : Reader) × HasItemsTo Encodes IsKnown contents next × IsRefusedAs Encodes Fault e next)

abbrev pub IsAny : {X : Type 0} → X → Type 0
IsAny x = Unit {0}

-- The list is in error, or an import is of no known kind: its byte and offset.
abbrev pub ImportsFault : ModuleFault → Reader → Type 0
ImportsFault (fault.Refused e) contents = ListFault EncodesImport ImportFault IsKnownImport e contents
ImportsFault (fault.ImportKind byte offset) contents =
    (next : Reader) × HasItemsTo EncodesImport IsKnownImport contents next × (offset ≡ offset_of next) ×
    (import : ImportParts) × (after : Reader) × HasRead EncodesImport import next after × (import.kind ≡ byte) × (4 < byte)
ImportsFault _ contents = ⊥

-- After items, all known, comes an item with this property.
abbrev pub HasItemWith : {X : Type 0} → (List ℕ → X → Type 0) → (X → Type 0) → (X → Type 0) → Reader → Type 0
HasItemWith {X} Encodes IsKnown P contents =
    (next : Reader) × HasItemsTo Encodes IsKnown contents next × (x : X) × (after : Reader) × HasRead Encodes x next after × P x

-- The next type index is in error; or allocation for one failed.
abbrev pub FunctionsFault : ModuleFault → Reader → Type 0
FunctionsFault (fault.Refused e) contents = ListFault (EncodesUnsigned 32) U32Fault IsAny e contents
FunctionsFault fault.Memory contents = HasItemWith (EncodesUnsigned 32) IsAny IsAny contents
FunctionsFault _ contents = ⊥

abbrev pub ExportsFault : ModuleFault → Reader → Type 0
ExportsFault f contents = FailsWith (λ e. ListFault EncodesExport ExportFault IsAny e contents) f

-- Between the two readers are fewer than `n` sub types, all known.
pub record HasSubTypesTo (n : ℕ) (r next : Reader) : Type 0 where
  pub types : List CompositeType
  pub occur : ItemsOccur EncodesSubType r types next
  pub fewer : length types < n
  pub known : AreKnownTypes types

-- The next of `n` sub types is in error, or of no known sort (its byte and offset); or it is of a
-- known sort and allocation for it failed.
abbrev pub SubTypesFault : ModuleFault → ℕ → Reader → Type 0
SubTypesFault (fault.Refused e) n r = (next : Reader) × HasSubTypesTo n r next × IsRefusedAs EncodesSubType SubTypeFault e next
SubTypesFault (fault.TypeKind byte offset) n r =
    (next : Reader) × HasSubTypesTo n r next × (offset ≡ offset_of next) × (after : Reader) × HasRead EncodesSubType (composite.Other byte) next after
SubTypesFault fault.Memory n r = (next : Reader) × HasSubTypesTo n r next × (ty : CompositeType) × (after : Reader) × HasRead EncodesSubType ty next after × IsKnownType ty
SubTypesFault _ n r = ⊥

abbrev pub AnnouncedFault : ModuleFault → Reader → Type 0
AnnouncedFault f r = FailsWith (λ e. BeginsWith 0x4e (rest r) × IsRefusedAs EncodesRecTypeLength RecTypeLengthFault e r) f

-- The number of sub types of a recursive type is in error, or one of them is.
abbrev pub RecTypeFault : ModuleFault → Reader → Type 0
RecTypeFault fault r = AnnouncedFault fault r ⊎ ((n : ℕ) × (first : Reader) × Announces n r first × SubTypesFault fault n first)

-- The bytes before the second reader are recursive types, all known, but not all that the section
-- declares.
pub record HasTypesTo (contents next : Reader) : Type 0 where
  pub first : Reader
  pub announced : ℕ
  pub count : HasRead (EncodesUnsigned 32) announced contents first
  pub rec_types : List (List CompositeType)
  pub occur : RecTypesOccur first rec_types next
  pub fewer : length rec_types < announced
  pub known : All AreKnownTypes rec_types

abbrev pub TypesLengthFault : ModuleFault → Reader → Type 0
TypesLengthFault f contents = FailsWith (λ e. IsRefusedAs (EncodesUnsigned 32) U32Fault e contents) f

-- The number of recursive types is in error, or the next recursive type.
abbrev pub TypesFault : ModuleFault → Reader → Type 0
TypesFault fault contents = TypesLengthFault fault contents ⊎ ((next : Reader) × HasTypesTo contents next × RecTypeFault fault next)

-- The first section with this number has contents with this property.
abbrev pub OfSection : Reader → ℕ → (Reader → Type 0) → Type 0
OfSection whole id P = (contents : Reader) × IsSection whole id (Some contents) × P contents

-- The first type section, if there is one, can be read. `HasImports` and `HasFunctions`: the first
-- import section; the first function section, with this many functions.
abbrev pub HasTypes : Reader → Type 0
HasTypes whole = (section : Option Reader) × (counts : List ℕ) × IsSection whole 1 section × CountsParameters section counts

abbrev pub HasImports : Reader → Type 0
HasImports whole = (section : Option Reader) × (n : ℕ) × IsSection whole 2 section × CountsImports section n

abbrev pub HasFunctions : Reader → ℕ → Type 0
HasFunctions whole count = (section : Option Reader) × (types : List ℕ) × IsSection whole 3 section × ListsTypes section types × (count ≡ length types)

-- The bytes are no module, or the contents of the section are in error.
abbrev pub SectionFaultAt : ModuleFault → Reader → ℕ → (ModuleFault → Reader → Type 0) → Type 0
SectionFaultAt fault whole id Fault = SectionsFault fault whole ⊎ OfSection whole id (Fault fault)

abbrev pub ImportsFunction : Reader → Type 0
ImportsFunction contents = HasItemWith EncodesImport IsAny (λ import. import.kind ≡ 0) contents

-- A function is imported, or one of `count` is defined.
abbrev pub HasFunction : Reader → ℕ → Type 0
HasFunction whole count = OfSection whole 2 ImportsFunction ⊎ (0 < count)

-- The exports are in error; or allocation for the name of a function failed.
abbrev pub NamesFault : ModuleFault → Reader → ℕ → Type 0
NamesFault f whole count = ((f ≡ fault.Memory) × HasFunction whole count) ⊎ SectionFaultAt f whole 7 ExportsFault

-- The bytes are no module, or the first of these sections in error has the fault: types, imports,
-- functions, exports; or allocation for an item failed.
abbrev pub ModuleFunctionsFault : ModuleFault → Reader → Type 0
ModuleFunctionsFault fault whole =
    SectionFaultAt fault whole 1 TypesFault ⊎
    ((HasTypes whole × SectionFaultAt fault whole 2 ImportsFault) ⊎
    ((HasTypes whole × HasImports whole × SectionFaultAt fault whole 3 FunctionsFault) ⊎
    (HasTypes whole × HasImports whole × (count : ℕ) × HasFunctions whole count × NamesFault fault whole count)))
