-- Specification: Binary Format, Modules, Code Section.
use Rattle.std.specs.Prelude.{◌≡◌, ℕ, ◌+◌, ◌<◌, ◌≤◌, List, [], ◌∷◌, ◌++◌, ◌⊎◌, Option, Some, None, Result, Ok, Err}
use Rattle.wasm_below.specs.declared.error.Error.{Error}
use Rattle.wasm_below.specs.declared.message.Message.{Message}
use Rattle.wasm_below.specs.declared.message.Message.TheVariants as message
use Rattle.wasm_below.specs.declared.types.ValType.{ValType}
use Rattle.wasm_below.specs.Fault.{ThenFault, ManyFault}
use Rattle.wasm_below.specs.FromReader.{ReadsValue}
use Rattle.wasm_below.specs.Number.{EncodesUnsigned}
use Rattle.wasm_below.specs.Sequence.{Then}
use Rattle.wasm_below.specs.Source.{Reader, offset_of, Takes, IsRefusal, U32Fault, HasRead}
use Rattle.wasm_below.specs.TypeEncoding.{EncodesValType, ValTypeFault}
use Rattle.wasm_imm.specs.Lists.{EncodesMany}

-- A declaration: the number of locals, and their type.
abbrev pub Declaration : Type 0
Declaration = ℕ × ValType

-- The bytes encode a declaration.
--   locals ::= n:u32 t:valtype ⇒ (local t)^n
abbrev pub EncodesDeclaration : List ℕ → Declaration → Type 0
EncodesDeclaration text d = (number ty : List ℕ) × (text ≡ number ++ ty) × EncodesUnsigned 32 number d.0 × EncodesValType ty d.1

-- The bytes encode the number of these declarations, and each of them.
--   func ::= loc**:list(locals) e:expr ⇒ concat(loc**) e
abbrev pub EncodesLocals : List ℕ → List Declaration → Type 0
EncodesLocals = Then (EncodesUnsigned 32) (EncodesMany EncodesDeclaration)

-- The error of a declaration: of the number of locals, or of their type.
abbrev pub DeclarationFault : Message → Reader → ℕ → Type 0
DeclarationFault = ThenFault (EncodesUnsigned 32) U32Fault (λ number. ValTypeFault)

-- The error of the count, or of the first declaration in error.
abbrev pub LocalsFault : Message → Reader → ℕ → Type 0
LocalsFault = ThenFault (EncodesUnsigned 32) U32Fault (ManyFault EncodesDeclaration DeclarationFault)

-- The body's locals have this error.
pub record RefusesLocals (e : Error) (body : Reader) : Type 0 where
  pub refusal : IsRefusal EncodesLocals e body
  pub fault : LocalsFault e.message body e.offset

-- The reader is after these locals of a body.
abbrev pub IsPastLocals : List Declaration → Reader → Reader → Type 0
IsPastLocals declarations body r = (text : List ℕ) × EncodesLocals text declarations × Takes body r text

-- A reader after the locals of a body, or their error.
abbrev pub ReadsPastLocals : Result Reader Error → Reader → Type 0
ReadsPastLocals (Ok r) body = (declarations : List Declaration) × IsPastLocals declarations body r
ReadsPastLocals (Err e) body = RefusesLocals e body

-- 4294967295: a function has at most this many locals.
--   func ::= .. ⇒ .., if |concat(loc**)| < 2^32
abbrev pub max_locals : ℕ
max_locals = 4294967295

-- A reader of locals, and the numbers of all declarations and of the locals declared so far.
pub record Locals : Type 0 where
  pub reader : Reader
  pub count : ℕ
  pub total : ℕ

-- A reader after a body's count of declarations, or the count's error.
abbrev pub OpensLocals : Result Locals Error → Reader → Type 0
OpensLocals (Ok l) body = (text : List ℕ) × EncodesUnsigned 32 text l.count × Takes body l.reader text × (l.total ≡ 0)
OpensLocals (Err e) body = IsRefusal (EncodesUnsigned 32) e body × U32Fault e.message body e.offset

-- The bytes encode a declaration that keeps the total within `max_locals`.
abbrev pub EncodesNext : ℕ → List ℕ → Declaration → Type 0
EncodesNext total text d = EncodesDeclaration text d × (total + d.0 ≤ max_locals)

-- After the number of locals: too many, or the error of the type.
abbrev pub NumberedFault : ℕ → ℕ → Message → Reader → ℕ → Type 0
NumberedFault total number m r offset = ((max_locals < total + number) × (m ≡ message.TooManyLocals) × (offset ≡ offset_of r)) ⊎
    ((total + number ≤ max_locals) × ValTypeFault m r offset)

-- The error of the next declaration: of the number; then too many locals; then of the type.
abbrev pub NextFault : ℕ → Message → Reader → ℕ → Type 0
NextFault total = ThenFault (EncodesUnsigned 32) U32Fault (NumberedFault total)

-- The next declaration is read and adds to the total; or reading fails, and nothing changes.
abbrev pub ReadsDeclaration : Result Declaration Error → Locals → Locals → Type 0
ReadsDeclaration (Ok d) old new =
    HasRead (EncodesNext old.total) d old.reader new.reader × (new.count ≡ old.count) × (new.total ≡ old.total + d.0)
ReadsDeclaration (Err e) old new =
    (new ≡ old) × ReadsValue (EncodesNext old.total) (NextFault old.total) (λ r. ⊥) (Err e) old.reader new.reader × NextFault old.total e.message old.reader e.offset

-- An iterator: the reader of locals, and how many items are left.
pub record LocalsLeft : Type 0 where
  pub locals : Locals
  pub left : ℕ

-- A step of the iterator: if an item is left, a declaration is read, and one less is left; after an
-- error none.
abbrev pub StepsLocals : Option (Result Declaration Error) → LocalsLeft → LocalsLeft → Type 0
StepsLocals None old new = (old.left ≡ 0) × (new ≡ old)
StepsLocals (Some (Ok d)) old new = (old.left ≡ new.left + 1) × ReadsDeclaration (Ok d) old.locals new.locals
StepsLocals (Some (Err e)) old new = (0 < old.left) × (new.left ≡ 0) × ReadsDeclaration (Err e) old.locals new.locals

-- The iterator with all items left.
abbrev pub all_left : Locals → LocalsLeft
all_left l = record { locals = l; left = l.count }

abbrev pub StepsAlong : List Declaration → LocalsLeft → LocalsLeft → Type 0
StepsAlong [] old new = new ≡ old
StepsAlong (d ∷ ds) old new = (mid : LocalsLeft) × StepsLocals (Some (Ok d)) old mid × StepsAlong ds mid new

-- Steps from unread locals to this iterator returned these declarations.
abbrev pub HasStepped : List Declaration → Reader → LocalsLeft → Type 0
HasStepped declarations body items = (unread : Locals) × OpensLocals (Ok unread) body × StepsAlong declarations (all_left unread) items

-- Skipping the locals of a body results in this reader.
abbrev pub IsResultPastLocals : Reader → Reader → Type 0
IsResultPastLocals r body = (outcome : Result Reader Error) → ReadsPastLocals outcome body → outcome ≡ Ok r
