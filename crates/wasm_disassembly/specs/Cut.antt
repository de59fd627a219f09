use Rattle.std.specs.Prelude.{◌≡◌, ℕ, ◌-◌, Bool, List, length, take, Option, Some, None, Result, Ok, Err}
use Rattle.wasm_operators.specs.below.declared.error.Error.{Error}
use Rattle.wasm_operators.specs.below.declared.features.WasmFeatures.{WasmFeatures}
use Rattle.wasm_operators.specs.below.Source.{Reader, rest, reader_of}
use Rattle.wasm_module.specs.Module.{EncodesSection, SectionFault}
use Rattle.wasm_module.specs.Refusals.{HasSectionsTo, IsRefusedAs}
use Rattle.wasm_disassembly.specs.declared.listing_fault.Fault.{Fault}
use Rattle.wasm_disassembly.specs.declared.listing_fault.Fault.TheVariants as fault
use Rattle.wasm_disassembly.specs.Listing.{ListsModule}

-- The first `n` bytes are a module's preamble and sections. The next section is in error.
abbrev pub IsCut : Reader → ℕ → Error → Type 0
IsCut whole n e =
    (next : Reader) × HasSectionsTo whole next × IsRefusedAs (EncodesSection next.features) SectionFault e next × (n ≡ length (rest whole) - length (rest next))

-- The cut of a module, if a section is in error.
abbrev pub IsFirstCut : Reader → Option (ℕ × Error) → Type 0
IsFirstCut whole None = (n : ℕ) → (e : Error) → IsCut whole n e → ⊥
IsFirstCut whole (Some cut) = IsCut whole cut.0 cut.1

-- The bytes before a cut, or all.
abbrev pub before_cut : Option (ℕ × Error) → List ℕ → List ℕ
before_cut None bytes = bytes
before_cut (Some cut) bytes = take cut.0 bytes

-- The module's fault, from the fault of the bytes before a cut and the cut's error. A function that
-- those bytes lack may be defined after the cut.
abbrev pub fault_after : Fault → Error → Fault
fault_after (fault.NoFunction missing) e = fault.Section e
fault_after f e = f

-- The module's result, from the result of the bytes before a cut.
abbrev pub after_cut : Option (ℕ × Error) → Result Bool Fault → Result Bool Fault
after_cut None listed = listed
after_cut (Some cut) (Ok whole) = Err (fault.Section cut.1)
after_cut (Some cut) (Err f) = Err (fault_after f cut.1)

-- The bytes before the first section in error are listed as a module.
pub record ListsUpToCut {S : Type 0} (reports : S → ℕ → Error → S → Type 0) (features : WasmFeatures) (only : Option ℕ) (file : Option (List ℕ)) (bytes : List ℕ)
    (result : Result Bool Fault) (before after : S) (old new : Option (List ℕ)) : Type 0 where
  pub cut : Option (ℕ × Error)
  pub is_cut : IsFirstCut (reader_of features 0 bytes) cut
  pub listed : Result Bool Fault
  pub lists : ListsModule reports features only file (before_cut cut bytes) listed before after old new
  pub is : result ≡ after_cut cut listed
