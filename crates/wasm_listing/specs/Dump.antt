-- What the program writes for a body.
use Rattle.std.specs.Prelude.{◌≡◌, ◌≢◌, ℕ, List, [], ◌∷◌, ◌++◌, Option, Result, Ok, Err, codes, decimal, flat_map}
use Rattle.std.specs.Io.KnownBytes.{Appends}
use Rattle.wasm_operators.specs.below.declared.error.Error.{Error}
use Rattle.wasm_operators.specs.below.declared.features.WasmFeatures.{WasmFeatures}
use Rattle.wasm_operators.specs.below.declared.message.Message.TheVariants as message
use Rattle.wasm_operators.specs.below.Source.{Reader, reader_of, source_of}
use Rattle.wasm_operators.specs.instr.declared.operator.Operator.{Operator}
use Rattle.wasm_operators.specs.instr.Row.{name_of}
use Rattle.wasm_operators.specs.Expression.{Placed}
use Rattle.wasm_operators.specs.Locals.{Declaration}
use Rattle.wasm_operators.specs.Body.{EncodesBody, StopsBody}
use Rattle.wasm_listing.specs.declared.fault.DumpFault.{DumpFault}
use Rattle.wasm_listing.specs.declared.fault.DumpFault.TheVariants as fault

-- The line of an operator: its offset in decimal, a space, its name, a line feed.
abbrev pub line_of : Operator × ℕ → List ℕ
line_of p = decimal p.1 ++ (codes " " ++ (name_of p.0 ++ 10 ∷ []))

abbrev pub lines : Placed → List ℕ
lines placed = flat_map line_of placed

-- The input of the program, at offset 0.
abbrev pub input_of : WasmFeatures → List ℕ → Reader
input_of features bytes = reader_of features 0 bytes

-- The input is a body with these locals and operators.
abbrev pub IsBody : Reader → List Declaration → Placed → Type 0
IsBody input declarations placed = EncodesBody (source_of input) declarations placed

-- The input is no body: an error follows these operators.
abbrev pub IsNoBody : Error → Reader → Placed → Type 0
IsNoBody e input placed = (e.message ≢ message.OutOfMemory) × StopsBody e input placed

abbrev pub status_of : DumpFault → ℕ
status_of (fault.Refused e) = 1
status_of _ = 3

-- The text has the lines of the operators that were read.
abbrev pub Lists : {X : Type 0} → Reader → Result X Error → List ℕ → Type 0
Lists input (Ok x) text = (declarations : List Declaration) × (placed : Placed) × IsBody input declarations placed × (text ≡ lines placed)
Lists input (Err e) text = (placed : Placed) × IsNoBody e input placed × (text ≡ lines placed)

-- The lines of the body's operators are written, or of those before an error of the bytes. Nothing
-- is said of other faults.
abbrev pub Dumps : {X : Type 0} → Reader → Result X DumpFault → Option (List ℕ) → Option (List ℕ) → Type 0
Dumps input (Ok x) old new = (declarations : List Declaration) × (placed : Placed) × IsBody input declarations placed × Appends old new (lines placed)
Dumps input (Err (fault.Refused e)) old new = (placed : Placed) × IsNoBody e input placed × Appends old new (lines placed)
Dumps input (Err _) old new = Unit {0}

abbrev pub IsNotRefused : {X : Type 0} → Result X DumpFault → Type 0
IsNotRefused (Err (fault.Refused e)) = ⊥
IsNotRefused _ = Unit {0}

-- All lines are written: of the body's operators, or of those before an error.
abbrev pub WritesLines : {X : Type 0} → Result X DumpFault → Type 0
WritesLines (Ok x) = Unit {0}
WritesLines (Err (fault.Refused e)) = Unit {0}
WritesLines (Err _) = ⊥

-- The faults that occur before anything is written.
abbrev pub WritesNothing : DumpFault → Type 0
WritesNothing fault.Reading = Unit {0}
WritesNothing fault.Memory = Unit {0}
WritesNothing _ = ⊥
