-- In the form of wabt's `wasm-objdump -d`. Specification: Binary Format, Modules: Code
-- Section.
use Rattle.std.specs.Prelude.{◌≡◌, ◌==◌, ◌⊎◌, ℕ, ◌+◌, Bool, true, false, List, [], ◌∷◌, ◌++◌, length, ◌≤◌, Option, Some, None, Result, Ok, Err, codes}
use Rattle.std.specs.Io.KnownBytes.{Appends, Keeps}
use Rattle.wasm_operators.specs.below.declared.error.Error.{Error}
use Rattle.wasm_operators.specs.below.declared.features.WasmFeatures.{WasmFeatures}
use Rattle.wasm_operators.specs.below.FromReader.{EncodesReader, ReaderFault}
use Rattle.wasm_operators.specs.below.Number.{EncodesUnsigned}
use Rattle.wasm_operators.specs.below.Source.{Reader, rest, offset_of, end_of, reader_of, source_of, HasRead, U32Fault}
use Rattle.wasm_operators.specs.Body.{EncodesBody}
use Rattle.wasm_operators.specs.Expression.{Placed}
use Rattle.wasm_operators.specs.Locals.{Declaration, max_locals}
use Rattle.wasm_operators.specs.Section.{StopsSection}
use Rattle.wasm_disassembly.specs.Disassembly.{Heading, IsText}
use Rattle.wasm_disassembly.specs.LocalLines.{locals_in}
use Rattle.wasm_module.specs.Refusals.{ModuleFunctionsFault, IsRefusedAs}
use Rattle.wasm_module.specs.Sections.{IsSection}
use Rattle.wasm_module.specs.ModuleFunctions.{ModuleFunctions, DescribesFunctions, IsDefined, index_of, parameters_at, NamesModule}
use Rattle.wasm_module.specs.declared.fault.ModuleFault.TheVariants as whole_fault
use Rattle.wasm_index_names.specs.Known.{ModuleNames, AreNamesOf}
use Rattle.wasm_rows.specs.Titles.{title_of}
use Rattle.wasm_disassembly.specs.declared.fault.DisassemblyFault.{DisassemblyFault}
use Rattle.wasm_disassembly.specs.declared.fault.DisassemblyFault.TheVariants as disassembly_fault
use Rattle.wasm_disassembly.specs.declared.listing_fault.Fault.{Fault}
use Rattle.wasm_disassembly.specs.declared.listing_fault.Fault.TheVariants as fault
use Rattle.wasm_disassembly.specs.declared.listing_fault.MissingFunction.{MissingFunction}

-- Between the two readers, the bytes encode these bodies, each after its length, with the section's
-- offsets.
abbrev pub BodiesOccur : Reader → List Reader → Reader → Type 0
BodiesOccur r [] end = end ≡ r
BodiesOccur r (b ∷ bs) end = (mid : Reader) × HasRead (EncodesReader r.features) b r mid × (end_of b ≡ offset_of mid) × BodiesOccur mid bs end

-- The contents of a code section are the number of bodies and these bodies.
pub record IsCode (contents : Reader) (bodies : List Reader) : Type 0 where
  pub first : Reader
  pub count : HasRead (EncodesUnsigned 32) (length bodies) contents first
  pub end : Reader
  pub occur : BodiesOccur first bodies end
  pub all : rest end ≡ []

-- After these bodies, the next one that is declared can't be read, or data is left after the last.
pub record StopsCode (e : Error) (contents : Reader) (bodies : List Reader) : Type 0 where
  pub first : Reader
  pub remaining : ℕ
  pub count : HasRead (EncodesUnsigned 32) (length bodies + remaining) contents first
  pub end : Reader
  pub occur : BodiesOccur first bodies end
  pub stops : StopsSection (EncodesReader end.features) ReaderFault (λ r. ⊥) e (record { remaining = remaining; reader = end; refused = false })

-- The number of bodies is in error, or what follows these bodies is.
abbrev pub RefusesCode : Error → Reader → List Reader → Type 0
RefusesCode e contents bodies = ((bodies ≡ []) × IsRefusedAs (EncodesUnsigned 32) U32Fault e contents) ⊎ StopsCode e contents bodies

-- Whether the function with this index is requested. `None` requests all functions.
abbrev pub is_asked : Option ℕ → ℕ → Bool
is_asked None index = true
is_asked (Some only) index = only == index

-- The first property if the function is requested, otherwise the second.
abbrev pub WhereAsked : Bool → Type 0 → Type 0 → Type 0
WhereAsked true A B = A
WhereAsked false A B = B

-- Errors, each with the index of its function.
abbrev pub Refusals : Type 0
Refusals = List (ℕ × Error)

abbrev pub are_none : Refusals → Bool
are_none [] = true
are_none (r ∷ rs) = false

-- These errors were reported, one after another.
abbrev pub Reported : {S : Type 0} → (S → ℕ → Error → S → Type 0) → Refusals → S → S → Type 0
Reported reports [] old new = new ≡ old
Reported {S} reports (r ∷ rs) old new = (mid : S) × reports old r.0 r.1 mid × Reported reports rs mid new

-- The heading of the defined function with the ordinal `place`.
abbrev pub heading_at : ModuleNames → ModuleFunctions → ℕ → Heading
heading_at names t place = record { index = index_of t place; names = names; parameters = parameters_at t place }

-- The result of reading a function whose text ends with this fault, or the failure of allocation or
-- of the writer.
abbrev pub outcome_of : DisassemblyFault → Result (Result (Unit {0}) Error) Fault
outcome_of (disassembly_fault.Refused e) = Ok (Err e)
outcome_of disassembly_fault.Memory = Err fault.Memory
outcome_of disassembly_fault.Writing = Err fault.Writing

-- The report about the function with this index: its error, or none.
abbrev pub refusals_of : {X : Type 0} → ℕ → Result X Error → Refusals
refusals_of index (Ok x) = []
refusals_of index (Err e) = (index, e) ∷ []

-- The text of a defined function, up to an error, which is reported.
abbrev pub ListsFunction : ModuleNames → ModuleFunctions → ℕ → Reader → Refusals → List ℕ → Type 0
ListsFunction names t place body reported text =
    (outcome : Result (Unit {0}) Error) × IsText (heading_at names t place) outcome body text × (reported ≡ refusals_of (index_of t place) outcome)

-- The text of a defined function, or nothing if it is not requested.
abbrev pub IsWritten : ModuleNames → ModuleFunctions → Option ℕ → ℕ → Reader → Refusals → List ℕ → Type 0
IsWritten names t only place body reported text =
    WhereAsked (is_asked only (index_of t place)) (ListsFunction names t place body reported text) ((reported ≡ []) × (text ≡ []))

-- The texts and reports of these functions; `place` is the ordinal of the first.
abbrev pub AreWritten : ModuleNames → ModuleFunctions → Option ℕ → ℕ → List Reader → Refusals → List ℕ → Type 0
AreWritten names t only place [] reported text = (reported ≡ []) × (text ≡ [])
AreWritten names t only place (b ∷ bs) reported text =
    (one others : Refusals) × (own more : List ℕ) × (reported ≡ one ++ others) × (text ≡ own ++ more) × IsWritten names t only place b one own ×
    AreWritten names t only (place + 1) bs others more

-- The requested functions with these bodies were written and errors reported.
pub record Writes {S : Type 0} (reports : S → ℕ → Error → S → Type 0) (names : ModuleNames) (t : ModuleFunctions) (only : Option ℕ) (bodies : List Reader) (reported : Refusals)
    (before after : S) (old new : Option (List ℕ)) : Type 0 where
  pub text : List ℕ
  pub written : AreWritten names t only 0 bodies reported text
  pub appends : Appends old new text
  pub reported_all : Reported reports reported before after

-- The functions are written up to an error of the section. The result is whether no function has an
-- error. Nothing is said of other faults.
abbrev pub ListsCode : {S : Type 0} → (S → ℕ → Error → S → Type 0) → ModuleNames → ModuleFunctions → Option ℕ → Reader → Result Bool Fault → S → S → Option (List ℕ) →
    Option (List ℕ) → Type 0
ListsCode reports names t only contents (Ok whole) before after old new =
    (bodies : List Reader) × IsCode contents bodies × (reported : Refusals) × Writes reports names t only bodies reported before after old new × (whole ≡ are_none reported)
ListsCode reports names t only contents (Err (fault.Code e)) before after old new =
    (bodies : List Reader) × RefusesCode e contents bodies × (reported : Refusals) × Writes reports names t only bodies reported before after old new
ListsCode reports names t only contents (Err _) before after old new = Unit {0}

-- As `ListsCode`, if the module has a code section, with these contents. Without one, the result is
-- `Ok true`, and nothing is written.
abbrev pub ListsFound : {S : Type 0} → (S → ℕ → Error → S → Type 0) → ModuleNames → ModuleFunctions → Option ℕ → Option Reader → Result Bool Fault → S → S → Option (List ℕ) →
    Option (List ℕ) → Type 0
ListsFound reports names t only (Some contents) result before after old new = ListsCode reports names t only contents result before after old new
ListsFound reports names t only None (Ok whole) before after old new = (whole ≡ true) × (after ≡ before) × Keeps old new
ListsFound reports names t only None (Err f) before after old new = Unit {0}

-- The title, unless there is no file name, and the heading `listed`.
abbrev pub heading_of : Option (List ℕ) → List ℕ → List ℕ → List ℕ
heading_of file name listed = title_of file name ++ listed

abbrev pub code_heading : List ℕ
code_heading = codes "\nCode Disassembly:\n\n"

-- All functions are requested, or one that the module defines.
abbrev pub IsThere : ModuleFunctions → Option ℕ → Type 0
IsThere t None = Unit {0}
IsThere t (Some index) = IsDefined t index

-- The bytes are a module with these functions and this code section. It defines the requested
-- function.
pub record OpensModule (features : WasmFeatures) (only : Option ℕ) (bytes : List ℕ) (functions : ModuleFunctions) (code : Option Reader) : Type 0 where
  pub described : DescribesFunctions (reader_of features 0 bytes) functions
  pub is_there : IsThere functions only
  pub is_code : IsSection (reader_of features 0 bytes) 10 code

-- The bytes are a module that does not define this function.
pub record LacksFunction (features : WasmFeatures) (bytes : List ℕ) (missing : MissingFunction) : Type 0 where
  pub functions : ModuleFunctions
  pub described : DescribesFunctions (reader_of features 0 bytes) functions
  pub is_not : IsDefined functions missing.index → ⊥
  pub imported : missing.imported ≡ functions.imported
  pub defined : missing.defined ≡ length functions.types

-- The functions of the bytes are not known, with this fault, or the module does not define the
-- requested function.
abbrev pub FailsModule : WasmFeatures → Option ℕ → List ℕ → Fault → Type 0
FailsModule features only bytes (fault.Module f) =
    ModuleFunctionsFault f (reader_of features 0 bytes) × ((functions : ModuleFunctions) → DescribesFunctions (reader_of features 0 bytes) functions → f ≡ whole_fault.Memory)
FailsModule features only bytes (fault.NoFunction missing) = (only ≡ Some missing.index) × LacksFunction features bytes missing
FailsModule features only bytes _ = ⊥

-- A heading is written, and the functions of the code section.
pub record WritesModule {S : Type 0} (reports : S → ℕ → Error → S → Type 0) (features : WasmFeatures) (only : Option ℕ) (file : Option (List ℕ)) (bytes : List ℕ)
    (result : Result Bool Fault) (before after : S) (old new : Option (List ℕ)) : Type 0 where
  pub functions : ModuleFunctions
  pub code : Option Reader
  pub opens : OpensModule features only bytes functions code
  pub name : List ℕ
  pub is_name : NamesModule (reader_of features 0 bytes) name
  pub titled : Option (List ℕ)
  pub title : Appends old titled (heading_of file name code_heading)
  pub names : ModuleNames
  pub are_names : AreNamesOf functions features bytes names
  pub lists : ListsFound reports names functions only code result before after titled new

-- A module is written, up to an error of its code section, or nothing is. Nothing is said if
-- writing failed, or allocation after the start.
abbrev pub ListsModule : {S : Type 0} → (S → ℕ → Error → S → Type 0) → WasmFeatures → Option ℕ → Option (List ℕ) → List ℕ → Result Bool Fault → S → S →
    Option (List ℕ) → Option (List ℕ) → Type 0
ListsModule reports features only file bytes (Ok whole) before after old new = WritesModule reports features only file bytes (Ok whole) before after old new
ListsModule reports features only file bytes (Err (fault.Code e)) before after old new =
    WritesModule reports features only file bytes (Err (fault.Code e)) before after old new
ListsModule reports features only file bytes (Err fault.Writing) before after old new = Unit {0}
ListsModule reports features only file bytes (Err fault.Memory) before after old new = Unit {0}
ListsModule reports features only file bytes (Err f) before after old new = FailsModule features only bytes f × (after ≡ before)

-- The bytes are a body, with no more locals than the limit.
abbrev pub IsFunction : Reader → Type 0
IsFunction body = (declarations : List Declaration) × (placed : Placed) × EncodesBody (source_of body) declarations placed × (locals_in declarations ≤ max_locals)

-- Each requested function has a body with the property; `place` is the ordinal of the first.
abbrev pub AreAsked : (Reader → Type 0) → ModuleFunctions → Option ℕ → ℕ → List Reader → Type 0
AreAsked Is t only place [] = Unit {0}
AreAsked Is t only place (b ∷ bs) = WhereAsked (is_asked only (index_of t place)) (Is b) (Unit {0}) × AreAsked Is t only (place + 1) bs

-- Each requested function of a code section has a body with the property.
abbrev pub HasAsked : (Reader → Type 0) → ModuleFunctions → Option ℕ → Option Reader → Type 0
HasAsked Is t only None = Unit {0}
HasAsked Is t only (Some contents) = (bodies : List Reader) × IsCode contents bodies × AreAsked Is t only 0 bodies

-- Each requested function of this module has a body with the property.
pub record IsModuleOf (Is : Reader → Type 0) (features : WasmFeatures) (only : Option ℕ) (bytes : List ℕ) : Type 0 where
  pub functions : ModuleFunctions
  pub code : Option Reader
  pub opens : OpensModule features only bytes functions code
  pub bodies : HasAsked Is functions only code

-- The faults after which nothing is written.
abbrev pub WritesNothing : Fault → Type 0
WritesNothing (fault.Module _) = Unit {0}
WritesNothing (fault.NoFunction _) = Unit {0}
WritesNothing _ = ⊥

-- Writing failed, or an allocation after the title was begun. (`Module Memory`: before that.)
abbrev pub IsHalt : Fault → Type 0
IsHalt fault.Writing = Unit {0}
IsHalt fault.Memory = Unit {0}
IsHalt _ = ⊥

-- The faults once a listing was begun.
abbrev pub IsLater : Fault → Type 0
IsLater (fault.Code _) = Unit {0}
IsLater f = IsHalt f

-- The faults that say nothing about the module.
abbrev pub IsOutside : Fault → Type 0
IsOutside (fault.Module f) = f ≡ whole_fault.Memory
IsOutside f = IsHalt f

-- No function has an error, unless writing or allocation failed.
abbrev pub Succeeds : Result Bool Fault → Type 0
Succeeds (Ok whole) = whole ≡ true
Succeeds (Err f) = IsOutside f

abbrev pub status_of : Fault → ℕ
status_of (fault.Module whole_fault.Memory) = 3
status_of (fault.Module _) = 1
status_of (fault.Code _) = 1
status_of (fault.NoFunction _) = 1
status_of (fault.Section _) = 1
status_of _ = 3
