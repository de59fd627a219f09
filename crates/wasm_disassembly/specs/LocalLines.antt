-- In the form of wabt's `wasm-objdump -d`. Specification: Binary Format, Modules, Code
-- Section.
use Rattle.std.specs.Prelude.{◌≡◌, ◌<◌, ℕ, ◌+◌, List, [], ◌∷◌, ◌++◌, length, drop, map, Option, Result, Ok, Err}
use Rattle.std.specs.Io.KnownBytes.{Appends}
use Rattle.wasm_operators.specs.below.declared.types.ValType.{ValType}
use Rattle.wasm_operators.specs.below.Source.{offset_of, Takes}
use Rattle.wasm_operators.specs.Locals.{Declaration, EncodesDeclaration, Locals, ReadsDeclaration}
use Rattle.wasm_text.specs.Rows.{line_of}
use Rattle.wasm_text.specs.Lines.{shown_indices, between, next_offset}
use Rattle.wasm_text.specs.Values.{value_type_text}
use Rattle.wasm_disassembly.specs.declared.fault.DisassemblyFault.{DisassemblyFault}
use Rattle.wasm_disassembly.specs.declared.fault.DisassemblyFault.TheVariants as fault

-- Declarations, each with the offset of its first byte.
abbrev pub PlacedLocals : Type 0
PlacedLocals = List (Declaration × ℕ)

abbrev pub declarations_of : PlacedLocals → List Declaration
declarations_of placed = map (λ p. p.0) placed

-- The number of locals in these declarations.
abbrev pub locals_in : List Declaration → ℕ
locals_in [] = 0
locals_in (d ∷ ds) = d.0 + locals_in ds

-- The bytes encode these declarations, one after another, each at its offset.
abbrev pub LaidOutLocals : ℕ → List ℕ → PlacedLocals → Type 0
LaidOutLocals offset bytes [] = bytes ≡ []
LaidOutLocals offset bytes (p ∷ ps) = (p.1 ≡ offset) × (text more : List ℕ) × (bytes ≡ text ++ more) × EncodesDeclaration text p.0 ×
    LaidOutLocals (offset + length text) more ps

-- These declarations are read, one after another.
pub record TakesDeclarations (old new : Locals) (placed : PlacedLocals) : Type 0 where
  pub text : List ℕ
  pub takes : Takes old.reader new.reader text
  pub laid : LaidOutLocals (offset_of old.reader) text placed
  pub count : new.count ≡ old.count
  pub total : new.total ≡ old.total + locals_in (declarations_of placed)

-- The name of a value type, without the space before it.
abbrev pub type_name : ValType → List ℕ
type_name ty = drop 1 (value_type_text ty)

-- The text of a declaration whose first local has the index `first`.
abbrev pub declaration_text : ℕ → Declaration → List ℕ
declaration_text first d = shown_indices first d.0 ++ type_name d.1

-- The lines of declarations. Each has the bytes up to the next, or up to `end`. The bytes start at
-- `start`, and `first` is the index of the first local.
abbrev pub declaration_lines : ℕ → List ℕ → ℕ → ℕ → PlacedLocals → List ℕ
declaration_lines start bytes end first [] = []
declaration_lines start bytes end first (p ∷ ps) =
    line_of 0 p.1 (between start bytes p.1 (next_offset end ps)) (declaration_text first p.0) ++ declaration_lines start bytes end (first + p.0.0) ps

-- These declarations are read, and their lines written. The bytes start at `start`, and `first` is
-- the index of the first local.
pub record WritesDeclarations (start : ℕ) (bytes : List ℕ) (first : ℕ) (old new : Locals) (before after : Option (List ℕ)) (placed : PlacedLocals) : Type 0 where
  pub takes : TakesDeclarations old new placed
  pub written : Appends before after (declaration_lines start bytes (offset_of new.reader) first placed)

-- All declarations are read, or those before an error, and their lines are written, unless
-- allocation or the writer failed.
abbrev pub ListsDeclarations : {X : Type 0} → ℕ → List ℕ → ℕ → Result X DisassemblyFault → Locals → Locals → Option (List ℕ) → Option (List ℕ) → Type 0
ListsDeclarations start bytes first (Ok x) old new before after =
    (placed : PlacedLocals) × (length placed ≡ old.count) × WritesDeclarations start bytes first old new before after placed
ListsDeclarations start bytes first (Err (fault.Refused e)) old new before after =
    (placed : PlacedLocals) × (length placed < old.count) × WritesDeclarations start bytes first old new before after placed × ReadsDeclaration (Err e) new new
ListsDeclarations start bytes first (Err _) old new before after = Unit {0}
