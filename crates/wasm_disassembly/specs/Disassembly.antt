-- In the form of wabt's `wasm-objdump -d`. Specification: Binary Format, Modules, Code
-- Section.
use Rattle.std.specs.Prelude.{◌≡◌, ◌≢◌, ◌<◌, ◌⊎◌, ℕ, ◌+◌, List, [], ◌++◌, length, Option, Result, Ok, Err, codes, decimal}
use Rattle.std.specs.Io.KnownBytes.{Appends}
use Rattle.wasm_operators.specs.below.declared.error.Error.{Error}
use Rattle.wasm_operators.specs.below.declared.message.Message.TheVariants as message
use Rattle.wasm_operators.specs.below.Source.{Source, Reader, rest, offset_of, source_of}
use Rattle.wasm_operators.specs.Body.{EncodesBody, NoExpression}
use Rattle.wasm_operators.specs.Expression.{Placed, EncodesExpression}
use Rattle.wasm_operators.specs.MainTheorem.{ReadsBeginning}
use Rattle.wasm_operators.specs.Locals.{Locals, OpensLocals, ReadsDeclaration}
use Rattle.wasm_operators.specs.Reading.{State, IsFresh}
use Rattle.wasm_operators.specs.instr.declared.operator.Operator.{Operator}
use Rattle.wasm_operators.specs.Next.{collecting}
use Rattle.wasm_operators.specs.instr.declared.operator.Operator.TheVariants as operator
use Rattle.wasm_index_names.specs.Known.{ModuleNames}
use Rattle.wasm_index_names.specs.Lists.{name_at, local_at, locals_of}
use Rattle.wasm_instr_ops.specs.declared.misc.MiscOperator.{MiscOperator}
use Rattle.wasm_instr_ops.specs.declared.misc.MiscOperator.TheVariants as misc
use Rattle.wasm_text.specs.Lines.{shown_name, header_of, lines_of}
use Rattle.wasm_text.specs.Operands.{text_of}
use Rattle.wasm_disassembly.specs.declared.fault.DisassemblyFault.{DisassemblyFault}
use Rattle.wasm_disassembly.specs.declared.fault.DisassemblyFault.TheVariants as fault
use Rattle.wasm_disassembly.specs.LocalLines.{PlacedLocals, declarations_of, TakesDeclarations, declaration_lines}

-- A function's index, the names of the module's things by index (some may be empty), and its number
-- of parameters, which are the first locals.
pub record Heading : Type 0 where
  pub index : ℕ
  pub names : ModuleNames
  pub parameters : ℕ

abbrev pub header : Heading → Source → List ℕ
header h body = header_of body.offset h.index (name_at h.names.functions h.index)

-- The names of the module's things, for the function with this index.
pub record BodyNames : Type 0 where
  pub index : ℕ
  pub names : ModuleNames

abbrev pub names_for : Heading → BodyNames
names_for h = record { index = h.index; names = h.names }

-- The name of the local with this index.
abbrev pub local_name : BodyNames → ℕ → List ℕ
local_name n index = local_at (locals_of n.names.locals n.index) index

-- The name of the data segment of an operator with prefix 0xfc.
abbrev pub misc_name : BodyNames → MiscOperator → List ℕ
misc_name n (misc.MemoryInit segment memory) = name_at n.names.segments segment
misc_name n (misc.DataDrop segment) = name_at n.names.segments segment
misc_name n op = []

-- The name after the text of an operator. Other operators show none, as in wabt 1.0.32.
abbrev pub operator_name : BodyNames → Operator → List ℕ
operator_name n (operator.Call index) = name_at n.names.functions index
operator_name n (operator.LocalGet index) = local_name n index
operator_name n (operator.LocalSet index) = local_name n index
operator_name n (operator.GlobalGet index) = name_at n.names.globals index
operator_name n (operator.GlobalSet index) = name_at n.names.globals index
operator_name n (operator.Throw index) = name_at n.names.tags index
operator_name n (operator.Misc op) = misc_name n op
operator_name n op = []

-- An index and a name.
abbrev pub named_index : ℕ → List ℕ → List ℕ
named_index index name = codes " " ++ (decimal index ++ shown_name name)

-- An indirect call, with the names of the table and of the type.
abbrev pub indirect_text : BodyNames → ℕ → ℕ → List ℕ
indirect_text n ty table =
    codes "call_indirect" ++ (named_index table (name_at n.names.tables table) ++ (codes " (type" ++ (named_index ty (name_at n.names.types ty) ++ codes ")")))

-- The text of an operator, with the names of what it refers to.
abbrev pub named_text : BodyNames → Operator → List ℕ
named_text n (operator.CallIndirect ty table) = indirect_text n ty table
named_text n op = text_of op ++ shown_name (operator_name n op)

-- The lines of a body's locals. The last ends at the offset `after`.
abbrev pub local_lines : Heading → Source → PlacedLocals → ℕ → List ℕ
local_lines h body locals after = declaration_lines body.offset body.bytes after h.parameters locals

-- The lines of a body's operators. The last ends at the offset `end`.
abbrev pub operator_lines : Heading → Source → Placed → ℕ → List ℕ
operator_lines h body placed end = lines_of (named_text (names_for h)) body.offset body.bytes end placed

-- Any number of the declarations a body announces are read.
pub record ReadsLocals (body : Reader) (unread read : Locals) (locals : PlacedLocals) : Type 0 where
  pub opens : OpensLocals (Ok unread) body
  pub takes : TakesDeclarations unread read locals

-- The text of a function whose bytes encode a body.
pub record IsWhole (h : Heading) (body : Reader) (text : List ℕ) : Type 0 where
  pub unread : Locals
  pub read : Locals
  pub locals : PlacedLocals
  pub reads : ReadsLocals body unread read locals
  pub all : length locals ≡ unread.count
  pub placed : Placed
  pub encodes : EncodesBody (source_of body) (declarations_of locals) placed
  pub is : text ≡ header h (source_of body) ++ (local_lines h (source_of body) locals (offset_of read.reader) ++
      operator_lines h (source_of body) placed (offset_of body + length (rest body)))

-- The number of declarations is in error: only the header is written.
abbrev pub StopsAtCount : Heading → Error → Reader → List ℕ → Type 0
StopsAtCount h e body text = OpensLocals (Err e) body × (text ≡ header h (source_of body))

-- The next declaration is in error, or there are too many locals with it.
pub record StopsAtLocals (h : Heading) (e : Error) (body : Reader) (text : List ℕ) : Type 0 where
  pub unread : Locals
  pub read : Locals
  pub locals : PlacedLocals
  pub reads : ReadsLocals body unread read locals
  pub more : length locals < unread.count
  pub refused : ReadsDeclaration (Err e) read read
  pub is : text ≡ header h (source_of body) ++ local_lines h (source_of body) locals (offset_of read.reader)

-- The operators are the longest prefix of an expression, and an error other than `OutOfMemory`
-- follows.
pub record StopsAtOperators (h : Heading) (e : Error) (body : Reader) (text : List ℕ) : Type 0 where
  pub unread : Locals
  pub read : Locals
  pub locals : PlacedLocals
  pub reads : ReadsLocals body unread read locals
  pub all : length locals ≡ unread.count
  pub placed : Placed
  pub stops : NoExpression e body placed
  pub other : e.message ≢ message.OutOfMemory
  pub is : text ≡ header h (source_of body) ++ (local_lines h (source_of body) locals (offset_of read.reader) ++
      operator_lines h (source_of body) placed (offset_of stops.stopped.reader))

-- The text of a function whose body was read with this result.
abbrev pub IsText : {X : Type 0} → Heading → Result X Error → Reader → List ℕ → Type 0
IsText h (Ok x) body text = IsWhole h body text
IsText h (Err e) body text = StopsAtCount h e body text ⊎ (StopsAtLocals h e body text ⊎ StopsAtOperators h e body text)

-- The text of a function is written, to its end or up to an error, unless allocation or the writer
-- failed.
abbrev pub Disassembles : {X : Type 0} → Heading → Result X DisassemblyFault → Reader → Option (List ℕ) → Option (List ℕ) → Type 0
Disassembles {X} h (Ok x) body before after = (text : List ℕ) × Appends before after text × IsText {X = X} h (Ok x) body text
Disassembles {X} h (Err (fault.Refused e)) body before after = (text : List ℕ) × Appends before after text × IsText {X = X} h (Err e) body text
Disassembles h (Err _) body before after = Unit {0}

-- The lines of the operators are written, with these names, to the end or up to an error. The body's `bytes` start at the offset `start`.
abbrev pub ListsOperators : {X : Type 0} → BodyNames → ℕ → List ℕ → Result X DisassemblyFault → Reader → Option (List ℕ) → Option (List ℕ) → Type 0
ListsOperators names start bytes (Ok x) reader before after =
    (placed : Placed) × EncodesExpression (source_of reader) placed ×
    Appends before after (lines_of (named_text names) start bytes (offset_of reader + length (rest reader)) placed)
ListsOperators names start bytes (Err (fault.Refused e)) reader before after =
    (e.message ≢ message.OutOfMemory) × (opened stopped : State) × (opened.reader ≡ reader) × IsFresh opened × (placed : Placed) ×
    ReadsBeginning collecting [] e opened stopped placed ×
    Appends before after (lines_of (named_text names) start bytes (offset_of stopped.reader) placed)
ListsOperators names start bytes (Err _) reader before after = Unit {0}
