use Rattle.std.specs.Prelude.{◌≡◌, ◌⊎◌, ℕ, ◌+◌, ◌-◌, ◌^◌, Bool, List, [], ◌∷◌, ◌++◌, Option, Some, None, Result, Ok, Err, min, replicate, true}
use Rattle.wasm_operators.specs.below.declared.error.Error.{Error}
use Rattle.wasm_operators.specs.below.declared.features.WasmFeatures.{WasmFeatures}
use Rattle.wasm_operators.specs.below.Source.{Reader, rest, offset_of}
use Rattle.wasm_operators.specs.Expression.{Placed}
use Rattle.wasm_operators.specs.Locals.{Declaration}
use Rattle.wasm_listing.specs.declared.fault.DumpFault.TheVariants as dump
use Rattle.wasm_listing.specs.Census.{Counts}
use Rattle.wasm_listing.specs.Dump.{input_of, IsBody}
use Rattle.wasm_module.specs.ModuleFunctions.{ModuleFunctions, index_of}
use Rattle.std.specs.Io.KnownBytes.{Appends}
use Rattle.wasm_disassembly.specs.CountTable.{Row, IsTable, table_text}
use Rattle.wasm_disassembly.specs.declared.counts.ModuleCounts.{ModuleCounts}
use Rattle.wasm_disassembly.specs.declared.listing_fault.Fault.{Fault}
use Rattle.wasm_disassembly.specs.declared.listing_fault.Fault.TheVariants as fault
use Rattle.wasm_disassembly.specs.Listing.{Refusals, Reported, are_none, is_asked, WhereAsked, IsCode, RefusesCode, OpensModule, FailsModule, IsOutside}

-- The sums of counts, each at most the greatest u64.
abbrev pub add_counts : List ℕ → List ℕ → List ℕ
add_counts (a ∷ more) (b ∷ others) = min (a + b) (2 ^ 64 - 1) ∷ add_counts more others
add_counts _ _ = []

-- The error, if the bytes start at `offset` instead of 0. Its offset is at most 2^64 - 1.
abbrev pub moved : ℕ → Error → Error
moved offset e = record { message = e.message; offset = min (offset + e.offset) (2 ^ 64 - 1) }

-- A body's counts are added, or its error is reported.
abbrev pub AddsBody : WasmFeatures → ℕ → Reader → Refusals → List ℕ → List ℕ → Type 0
AddsBody features index body reported before after =
    ((added : List ℕ) × Counts (input_of features (rest body)) (Ok added) × (after ≡ add_counts before added) × (reported ≡ [])) ⊎
    ((e : Error) × Counts (input_of features (rest body)) (Err (dump.Refused e)) × (after ≡ before) × (reported ≡ (index, moved (offset_of body) e) ∷ []))

-- As `AddsBody`, for the defined function with the ordinal `place`, if it is requested; otherwise
-- nothing changes.
abbrev pub IsAdded : WasmFeatures → ModuleFunctions → Option ℕ → ℕ → Reader → Refusals → List ℕ → List ℕ → Type 0
IsAdded features t only place body reported before after =
    WhereAsked (is_asked only (index_of t place)) (AddsBody features (index_of t place) body reported before after) ((reported ≡ []) × (after ≡ before))

-- As `IsAdded`, for these bodies; `place` is the ordinal of the first.
abbrev pub AreAdded : WasmFeatures → ModuleFunctions → Option ℕ → ℕ → List Reader → Refusals → List ℕ → List ℕ → Type 0
AreAdded features t only place [] reported before after = (reported ≡ []) × (after ≡ before)
AreAdded features t only place (b ∷ bs) reported before after =
    (one others : Refusals) × (mid : List ℕ) × (reported ≡ one ++ others) × IsAdded features t only place b one before mid ×
    AreAdded features t only (place + 1) bs others mid after

abbrev pub no_counts : List ℕ
no_counts = replicate 19 0

-- The requested functions with these bodies were counted and errors reported.
pub record Adds {S : Type 0} (reports : S → ℕ → Error → S → Type 0) (features : WasmFeatures) (t : ModuleFunctions) (only : Option ℕ) (bodies : List Reader)
    (reported : Refusals) (before after : S) (counts : List ℕ) : Type 0 where
  pub added : AreAdded features t only 0 bodies reported no_counts counts
  pub reported_all : Reported reports reported before after

-- The functions are counted up to an error of the section. Nothing is said of other faults.
abbrev pub CountsCode : {S : Type 0} → (S → ℕ → Error → S → Type 0) → WasmFeatures → ModuleFunctions → Option ℕ → Reader → Result ModuleCounts Fault → S → S → Type 0
CountsCode reports features t only contents (Ok found) before after =
    (bodies : List Reader) × IsCode contents bodies × (reported : Refusals) × Adds reports features t only bodies reported before after found.counts ×
    (found.whole ≡ are_none reported)
CountsCode reports features t only contents (Err (fault.Code e)) before after =
    (bodies : List Reader) × RefusesCode e contents bodies × (reported : Refusals) × (counts : List ℕ) ×
    Adds reports features t only bodies reported before after counts
CountsCode reports features t only contents (Err _) before after = Unit {0}

-- As `CountsCode`, if the module has a code section, with these contents. Without one, the counts
-- are 0.
abbrev pub CountsFound : {S : Type 0} → (S → ℕ → Error → S → Type 0) → WasmFeatures → ModuleFunctions → Option ℕ → Option Reader → Result ModuleCounts Fault → S → S →
    Type 0
CountsFound reports features t only (Some contents) result before after = CountsCode reports features t only contents result before after
CountsFound reports features t only None (Ok found) before after = (found.counts ≡ no_counts) × (found.whole ≡ true) × (after ≡ before)
CountsFound reports features t only None (Err f) before after = Unit {0}

-- The operators of a module are counted.
pub record CountsOf {S : Type 0} (reports : S → ℕ → Error → S → Type 0) (features : WasmFeatures) (only : Option ℕ) (bytes : List ℕ)
    (result : Result ModuleCounts Fault) (before after : S) : Type 0 where
  pub functions : ModuleFunctions
  pub code : Option Reader
  pub opens : OpensModule features only bytes functions code
  pub counts : CountsFound reports features functions only code result before after

-- A module is counted, up to an error of its code section, or nothing is. Nothing is said if
-- reporting failed, or allocation after the start.
abbrev pub CountsModule : {S : Type 0} → (S → ℕ → Error → S → Type 0) → WasmFeatures → Option ℕ → List ℕ → Result ModuleCounts Fault → S → S → Type 0
CountsModule reports features only bytes (Ok found) before after = CountsOf reports features only bytes (Ok found) before after
CountsModule reports features only bytes (Err (fault.Code e)) before after = CountsOf reports features only bytes (Err (fault.Code e)) before after
CountsModule reports features only bytes (Err fault.Writing) before after = Unit {0}
CountsModule reports features only bytes (Err fault.Memory) before after = Unit {0}
CountsModule reports features only bytes (Err f) before after = FailsModule features only bytes f × (after ≡ before)

-- The bytes are a body whose operators can be counted.
abbrev pub IsCounted : WasmFeatures → Reader → Type 0
IsCounted features body = (declarations : List Declaration) × (placed : Placed) × IsBody (input_of features (rest body)) declarations placed

-- No function has an error, unless reporting or allocation failed.
abbrev pub CountsAll : Result ModuleCounts Fault → Type 0
CountsAll (Ok found) = found.whole ≡ true
CountsAll (Err f) = IsOutside f

-- The counts are written as a table if the module is counted.
abbrev pub TabulatesModule : {S : Type 0} → (S → ℕ → Error → S → Type 0) → WasmFeatures → Option ℕ → List ℕ → Result Bool Fault → S → S → Option (List ℕ) →
    Option (List ℕ) → Type 0
TabulatesModule reports features only bytes (Ok whole) before after old new =
    (found : ModuleCounts) × CountsOf reports features only bytes (Ok found) before after × (whole ≡ found.whole) × (rows : List Row) × IsTable found.counts rows ×
    Appends old new (table_text rows)
TabulatesModule reports features only bytes (Err (fault.Code e)) before after old new = CountsOf reports features only bytes (Err (fault.Code e)) before after × (new ≡ old)
TabulatesModule reports features only bytes (Err fault.Writing) before after old new = Unit {0}
TabulatesModule reports features only bytes (Err fault.Memory) before after old new = Unit {0}
TabulatesModule reports features only bytes (Err f) before after old new = FailsModule features only bytes f × (after ≡ before) × (new ≡ old)
