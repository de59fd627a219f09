use Rattle.std.proofs.Common.{ℕ, Bool, true, refl, List, Option, Some, None, Result, Ok, Err, IfErr}
use Rattle.std.specs.Io.KnownBytes.{Appends}
use Rattle.wasm_operators.specs.below.declared.error.Error.{Error}
use Rattle.wasm_operators.specs.below.declared.features.WasmFeatures.{WasmFeatures}
use Rattle.wasm_operators.specs.below.Source.{Reader, reader_of}
use Rattle.wasm_index_names.specs.Known.{ModuleNames, AreNamesOf}
use Rattle.wasm_module.specs.ModuleFunctions.{ModuleFunctions, NamesModule}
use Rattle.wasm_disassembly.specs.declared.counts.ModuleCounts.{ModuleCounts}
use Rattle.wasm_disassembly.specs.declared.listing_fault.Fault.{Fault}
use Rattle.wasm_disassembly.specs.declared.listing_fault.Fault.TheVariants as fault
use Rattle.wasm_disassembly.specs.Listing.{OpensModule, FailsModule, ListsCode, ListsModule, heading_of, code_heading, IsLater}
use Rattle.wasm_disassembly.specs.ModuleCensus.{CountsCode, CountsModule}
use Rattle.wasm_disassembly.proofs.Bodies.{keeps_same}

pub lists_module : {S : Type 0} (reports : S → ℕ → Error → S → Type 0) (features : WasmFeatures) (only : Option ℕ) (file : Option (List ℕ)) (bytes name : List ℕ) (names : ModuleNames) (t : ModuleFunctions)
    (contents : Reader) (result : Result Bool Fault) (before after : S) (old titled new : Option (List ℕ)) → OpensModule features only bytes t (Some contents) →
    NamesModule (reader_of features 0 bytes) name → Appends old titled (heading_of file name code_heading) → AreNamesOf t features bytes names →
    ListsCode reports names t only contents result before after titled new → IfErr result (λ f. IsLater f) →
    ListsModule reports features only file bytes result before after old new
lists_module reports features only file bytes name names t contents (Ok whole) before after old titled new opens named title are lists later =
    record { functions = t; code = Some contents; opens = opens; name = name; is_name = named; titled = titled; title = title; names = names; are_names = are; lists = lists }
lists_module reports features only file bytes name names t contents (Err (fault.Code e)) before after old titled new opens named title are lists later =
    record { functions = t; code = Some contents; opens = opens; name = name; is_name = named; titled = titled; title = title; names = names; are_names = are; lists = lists }
lists_module reports features only file bytes name names t contents (Err (fault.Module f)) before after old titled new opens named title are lists later = absurd later
lists_module reports features only file bytes name names t contents (Err (fault.NoFunction i)) before after old titled new opens named title are lists later = absurd later
lists_module reports features only file bytes name names t contents (Err (fault.Section e)) before after old titled new opens named title are lists later = absurd later
lists_module reports features only file bytes name names t contents (Err fault.Writing) before after old titled new opens named title are lists later = tt
lists_module reports features only file bytes name names t contents (Err fault.Memory) before after old titled new opens named title are lists later = tt

pub lists_none : {S : Type 0} (reports : S → ℕ → Error → S → Type 0) (features : WasmFeatures) (only : Option ℕ) (file : Option (List ℕ)) (bytes name : List ℕ) (names : ModuleNames) (t : ModuleFunctions) (s : S)
    (old new : Option (List ℕ)) → OpensModule features only bytes t None → NamesModule (reader_of features 0 bytes) name →
    Appends old new (heading_of file name code_heading) → AreNamesOf t features bytes names → ListsModule reports features only file bytes (Ok true) s s old new
lists_none reports features only file bytes name names t s old new opens named title are =
    record { functions = t; code = None; opens = opens; name = name; is_name = named; titled = new; title = title; names = names; are_names = are; lists = (refl, refl, keeps_same new) }

pub counts_module : {S : Type 0} (reports : S → ℕ → Error → S → Type 0) (features : WasmFeatures) (only : Option ℕ) (bytes : List ℕ) (t : ModuleFunctions)
    (contents : Reader) (result : Result ModuleCounts Fault) (before after : S) → OpensModule features only bytes t (Some contents) →
    CountsCode reports features t only contents result before after → IfErr result (λ f. IsLater f) → CountsModule reports features only bytes result before after
counts_module reports features only bytes t contents (Ok found) before after opens counts later =
    record { functions = t; code = Some contents; opens = opens; counts = counts }
counts_module reports features only bytes t contents (Err (fault.Code e)) before after opens counts later =
    record { functions = t; code = Some contents; opens = opens; counts = counts }
counts_module reports features only bytes t contents (Err (fault.Module f)) before after opens counts later = absurd later
counts_module reports features only bytes t contents (Err (fault.NoFunction i)) before after opens counts later = absurd later
counts_module reports features only bytes t contents (Err (fault.Section e)) before after opens counts later = absurd later
counts_module reports features only bytes t contents (Err fault.Writing) before after opens counts later = tt
counts_module reports features only bytes t contents (Err fault.Memory) before after opens counts later = tt

pub lists_refused : {S : Type 0} (reports : S → ℕ → Error → S → Type 0) (features : WasmFeatures) (only : Option ℕ) (file : Option (List ℕ)) (bytes : List ℕ) (f : Fault) (s : S)
    (written : Option (List ℕ)) → FailsModule features only bytes f → ListsModule reports features only file bytes (Err f) s s written written
lists_refused reports features only file bytes (fault.Module f) s written refuses = (refuses, refl)
lists_refused reports features only file bytes (fault.NoFunction i) s written refuses = (refuses, refl)
lists_refused reports features only file bytes (fault.Section e) s written refuses = absurd refuses
lists_refused reports features only file bytes (fault.Code e) s written refuses = absurd refuses
lists_refused reports features only file bytes fault.Writing s written refuses = tt
lists_refused reports features only file bytes fault.Memory s written refuses = tt

pub counts_refused : {S : Type 0} (reports : S → ℕ → Error → S → Type 0) (features : WasmFeatures) (only : Option ℕ) (bytes : List ℕ) (f : Fault) (s : S) →
    FailsModule features only bytes f → CountsModule reports features only bytes (Err f) s s
counts_refused reports features only bytes (fault.Module f) s refuses = (refuses, refl)
counts_refused reports features only bytes (fault.NoFunction i) s refuses = (refuses, refl)
counts_refused reports features only bytes (fault.Section e) s refuses = absurd refuses
counts_refused reports features only bytes (fault.Code e) s refuses = absurd refuses
counts_refused reports features only bytes fault.Writing s refuses = tt
counts_refused reports features only bytes fault.Memory s refuses = tt
