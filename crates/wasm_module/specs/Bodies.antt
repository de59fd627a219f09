-- Specification: Binary Format, Modules: Indices, Function Section, Code Section.
use Rattle.std.specs.Prelude.{◌≡◌, ◌≢◌, ◌⊎◌, ◌+◌, ◌-◌, ◌<◌, ◌≤◌, ◌^◌, ℕ, List, [], ◌∷◌, length, Option, Some, None, min, slice_index_or, if◌then◌else◌}
use Rattle.std.specs.Str.{is_utf8}
use Rattle.wasm_below.specs.declared.error.Error.{Error}
use Rattle.wasm_below.specs.declared.message.Message.TheVariants as message
use Rattle.wasm_below.specs.Features.{all_features}
use Rattle.wasm_below.specs.FromReader.{EncodesReader, ReaderFault}
use Rattle.wasm_below.specs.Number.{EncodesUnsigned}
use Rattle.wasm_below.specs.Source.{Reader, HasRead, U32Fault, rest, offset_of, end_of, reader_of, at_position}
use Rattle.wasm_module.specs.Items.{ItemsOccur}
use Rattle.wasm_module.specs.ModuleFunctions.{ModuleFunctions, DescribesFunctions, IsDefined, index_of}
use Rattle.wasm_module.specs.Refusals.{ModuleFunctionsFault, IsRefusedAs}
use Rattle.wasm_module.specs.Sections.{IsSection}
use Rattle.wasm_module.specs.declared.bodies.Bodies.{Bodies}
use Rattle.wasm_module.specs.declared.next.Body.{Body}
use Rattle.wasm_module.specs.declared.body_fault.BodiesFault.{BodiesFault}
use Rattle.wasm_module.specs.declared.body_fault.BodiesFault.TheVariants as fault
use Rattle.wasm_module.specs.declared.body_fault.NoBody.{NoBody}
use Rattle.wasm_module.specs.declared.body_fault.NoBody.TheVariants as no_body

abbrev pub module_of : List ℕ → Reader
module_of bytes = reader_of all_features 0 bytes

-- The reader after `n` more bytes.
abbrev pub after_bytes : Reader → ℕ → Reader
after_bytes contents n = at_position contents (contents.position + n)

-- The reader is after `n` bytes of the contents of the section with this number.
pub record InSection (bytes : List ℕ) (id n : ℕ) (there : Reader) : Type 0 where
  pub contents : Reader
  pub is_section : IsSection (module_of bytes) id (Some contents)
  pub within : n ≤ length (rest contents)
  pub is_there : there ≡ after_bytes contents n

-- The number of a section's items, and how many bytes encode that number. Without the section both
-- are 0.
abbrev pub Declares : Option Reader → ℕ → ℕ → Type 0
Declares None count n = (count ≡ 0) × (n ≡ 0)
Declares (Some contents) count n = HasRead (EncodesUnsigned 32) count contents (after_bytes contents n)

abbrev pub RefusesCount : Error → Option Reader → Type 0
RefusesCount e None = ⊥
RefusesCount e (Some contents) = IsRefusedAs (EncodesUnsigned 32) U32Fault e contents

-- As `Declares`, for the section with this number.
abbrev pub DeclaresIn : List ℕ → ℕ → ℕ → ℕ → Type 0
DeclaresIn bytes id count n = (contents : Option Reader) × IsSection (module_of bytes) id contents × Declares contents count n

-- The functions of the module can be read.
abbrev pub Describes : List ℕ → Type 0
Describes bytes = (t : ModuleFunctions) × DescribesFunctions (module_of bytes) t

-- The place before the first body of a module with as many bodies as defined functions.
pub record OpensBodies (bytes : List ℕ) (c : Bodies) : Type 0 where
  pub functions : ModuleFunctions
  pub described : DescribesFunctions (module_of bytes) functions
  pub types : DeclaresIn bytes 3 c.left c.types
  pub code : DeclaresIn bytes 10 c.left c.code
  pub imported : c.imported ≡ index_of functions 0
  pub read : c.read ≡ 0
  pub reserved : c.reserved ≡ 0

abbrev pub CountsDiffer : List ℕ → Type 0
CountsDiffer bytes = (functions bodies types code : ℕ) × DeclaresIn bytes 3 functions types × DeclaresIn bytes 10 bodies code × (bodies ≢ functions)

-- Why the bodies of a module can't be read.
abbrev pub FailsBodies : BodiesFault → List ℕ → Type 0
FailsBodies (fault.Functions f) bytes = ModuleFunctionsFault f (module_of bytes)
FailsBodies (fault.Code e) bytes = Describes bytes × (contents : Option Reader) × IsSection (module_of bytes) 10 contents × RefusesCount e contents
FailsBodies fault.Counts bytes = Describes bytes × CountsDiffer bytes
FailsBodies fault.NoFunction bytes = ⊥

-- Between offsets `old` and `new`, the function section's contents are a type index.
abbrev pub TakesType : List ℕ → ℕ → ℕ → ℕ → Type 0
TakesType bytes old new ty =
    (before after : Reader) × InSection bytes 3 old before × InSection bytes 3 new after × HasRead (EncodesUnsigned 32) ty before after

abbrev pub HasType : List ℕ → ℕ → Type 0
HasType bytes n = (new ty : ℕ) × TakesType bytes n new ty

-- Between offsets `old` and `new`, the code section's contents are a body's length and the body.
pub record TakesPart (bytes : List ℕ) (old new : ℕ) (part : Reader) : Type 0 where
  pub before : Reader
  pub is_before : InSection bytes 10 old before
  pub after : Reader
  pub is_after : InSection bytes 10 new after
  pub reads : HasRead (EncodesReader before.features) part before after
  pub place : end_of part ≡ offset_of after

-- The next body is read, with the index and the type of its function.
pub record TakesBody (bytes : List ℕ) (old new : Bodies) (body : Body) : Type 0 where
  pub left : old.left ≡ new.left + 1
  pub type_index : TakesType bytes old.types new.types body.type_index
  pub part : Reader
  pub takes : TakesPart bytes old.code new.code part
  pub offset : body.offset ≡ offset_of part
  pub length : body.length ≡ length (rest part)
  pub index : body.index ≡ min (old.imported + old.read) (2 ^ 32 - 1)
  pub read : new.read ≡ min (old.read + 1) (2 ^ 32 - 1)
  pub imported : new.imported ≡ old.imported
  pub reserved : new.reserved ≡ old.reserved

abbrev pub HasCode : List ℕ → ℕ → Type 0
HasCode bytes n = (there : Reader) × InSection bytes 10 n there

-- The C struct is a place of this module: before a body and a type index, or after the last body.
abbrev pub IsPlace : List ℕ → Bodies → Type 0
IsPlace bytes c = ((c.left ≡ 0) × ((c.code ≡ 0) ⊎ HasCode bytes c.code)) ⊎ ((0 < c.left) × HasType bytes c.types × HasCode bytes c.code)

-- Data is left in the code section, which is this error.
abbrev pub LeavesData : Error → List ℕ → ℕ → Type 0
LeavesData e bytes n =
    (there : Reader) × InSection bytes 10 n there × (rest there ≢ []) × (e ≡ record { message = message.DataAfterSection; offset = offset_of there })

abbrev pub RefusesPart : Error → List ℕ → ℕ → Type 0
RefusesPart e bytes n = (there : Reader) × InSection bytes 10 n there × IsRefusedAs (EncodesReader there.features) ReaderFault e there

-- Why no body is read. At the end, no body and no data of the code section is left.
abbrev pub StopsBodies : NoBody → List ℕ → Bodies → Type 0
StopsBodies no_body.End bytes c = (c.left ≡ 0) × ((c.code ≡ 0) ⊎ ((there : Reader) × InSection bytes 10 c.code there × (rest there ≡ [])))
StopsBodies (no_body.Refused e) bytes c =
    ((c.left ≡ 0) × (c.code ≢ 0) × LeavesData e bytes c.code) ⊎ ((0 < c.left) × HasType bytes c.types × RefusesPart e bytes c.code)
StopsBodies no_body.NotBodies bytes c = IsPlace bytes c → ⊥

-- Between the two readers, the bytes encode these bodies, each after its length, with the offsets of the module.
abbrev pub BodiesOccur : Reader → List Reader → Reader → Type 0
BodiesOccur r [] end = end ≡ r
BodiesOccur r (b ∷ bs) end = (mid : Reader) × HasRead (EncodesReader r.features) b r mid × (end_of b ≡ offset_of mid) × BodiesOccur mid bs end

-- The section with this number declares `count` items, and `first` is the reader before them.
abbrev pub StartsItems : List ℕ → ℕ → ℕ → Reader → Type 0
StartsItems bytes id count first =
    (contents : Reader) × IsSection (module_of bytes) id (Some contents) × HasRead (EncodesUnsigned 32) count contents first

-- The C struct is the place after these bodies, the first of the module, and as many type indices.
pub record IsAfter (bytes : List ℕ) (functions : ModuleFunctions) (bodies : List Reader) (types : List ℕ) (c : Bodies) : Type 0 where
  pub described : DescribesFunctions (module_of bytes) functions
  pub imported : c.imported ≡ index_of functions 0
  pub first_body : Reader
  pub starts_bodies : StartsItems bytes 10 (length bodies + c.left) first_body
  pub next_body : Reader
  pub at_body : InSection bytes 10 c.code next_body
  pub bodies_occur : BodiesOccur first_body bodies next_body
  pub first_type : Reader
  pub starts_types : StartsItems bytes 3 (length bodies + c.left) first_type
  pub next_type : Reader
  pub at_type : InSection bytes 3 c.types next_type
  pub types_occur : ItemsOccur (EncodesUnsigned 32) first_type types next_type
  pub as_many : length types ≡ length bodies
  pub read : c.read ≡ min (length bodies) (2 ^ 32 - 1)

-- The body is this part of the module. Its function is the defined function with this ordinal.
pub record IsBodyOf (functions : ModuleFunctions) (ordinal : ℕ) (part : Reader) (body : Body) : Type 0 where
  pub offset : body.offset ≡ offset_of part
  pub length : body.length ≡ length (rest part)
  pub index : body.index ≡ index_of functions ordinal

-- A name as text: empty if its bytes are not UTF-8.
abbrev pub text_of_name : List ℕ → List ℕ
text_of_name name = if is_utf8 name then name else []

abbrev pub name_at : ModuleFunctions → ℕ → List ℕ
name_at t index = text_of_name (slice_index_or t.names index [])

-- The name, as text, of a defined function; empty if it has none.
abbrev pub NamesFunction : List ℕ → ℕ → List ℕ → Type 0
NamesFunction bytes index name =
    (t : ModuleFunctions) × DescribesFunctions (module_of bytes) t × IsDefined t index × (name ≡ name_at t index)

-- The functions can't be read, or the module does not define the function.
abbrev pub FailsName : BodiesFault → List ℕ → ℕ → Type 0
FailsName (fault.Functions f) bytes index = ModuleFunctionsFault f (module_of bytes)
FailsName fault.NoFunction bytes index = (t : ModuleFunctions) × DescribesFunctions (module_of bytes) t × (IsDefined t index → ⊥)
FailsName _ bytes index = ⊥
