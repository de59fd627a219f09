-- Specification: Binary Format, Control and Parametric Instructions; proposal stack switching.
use Rattle.std.specs.Prelude.{◌≡◌, ◌≢◌, ℕ, List, [], ◌∷◌, ◌++◌, length}
use Rattle.wasm_below.specs.Number.{EncodesUnsigned, EncodesSize}
use Rattle.wasm_below.specs.Sequence.{Then}
use Rattle.wasm_below.specs.Source.{Reader, rest, NoPrefix, SomePrefix}
use Rattle.wasm_below.specs.TypeEncoding.{EncodesValType}
use Rattle.wasm_imm.specs.declared.handler_tables.TryTable.{TryTable}
use Rattle.wasm_imm.specs.declared.handler_tables.ResumeTable.{ResumeTable}
use Rattle.wasm_imm.specs.declared.select.Select.{Select}
use Rattle.wasm_imm.specs.declared.select.Select.TheVariants as select
use Rattle.wasm_imm.specs.BlockTypes.{EncodesBlockType}
use Rattle.wasm_imm.specs.Handlers.{EncodesCatch, EncodesHandle}
use Rattle.wasm_imm.specs.Lists.{EncodesList}

-- The greatest counts of catches, clauses and a select's types: limits of this project.
abbrev pub max_catches : ℕ
max_catches = 10000

abbrev pub max_handlers : ℕ
max_handlers = 10000

abbrev pub max_select_types : ℕ
max_select_types = 10

-- A block type and a list of catches.
--   0x1F bt:blocktype c*:list(catch) .. ⇒ try_table bt c* ..
abbrev pub EncodesTryTable : List ℕ → TryTable → Type 0
EncodesTryTable text t = (ty catches : List ℕ) × (text ≡ ty ++ catches) × EncodesBlockType ty t.ty × EncodesList max_catches EncodesCatch catches t.catches

-- A block type, and a count of at most 10000 catches.
abbrev pub EncodesTryTableCount : List ℕ → ℕ → Type 0
EncodesTryTableCount = Then EncodesBlockType (λ ty. EncodesSize max_catches)

-- A list of clauses.
abbrev pub EncodesResumeTable : List ℕ → ResumeTable → Type 0
EncodesResumeTable text t = EncodesList max_handlers EncodesHandle text t.handlers

abbrev pub EncodesHandlerCount : List ℕ → ℕ → Type 0
EncodesHandlerCount = EncodesSize max_handlers

-- The count of the types of a select, at most 10.
abbrev pub EncodesTypeCount : List ℕ → ℕ → Type 0
EncodesTypeCount = EncodesSize max_select_types

-- A list of value types; a single type is `One`.
abbrev pub EncodesSelect : List ℕ → Select → Type 0
EncodesSelect text (select.One ty) = EncodesList max_select_types EncodesValType text (ty ∷ [])
EncodesSelect text (select.Multi tys) = EncodesList max_select_types EncodesValType text tys × (length tys ≢ 1)

-- The count 1.
abbrev pub EncodesOne : List ℕ → ℕ → Type 0
EncodesOne text n = EncodesUnsigned 32 text n × (n ≡ 1)

-- A count of at most 10 follows, but not 1.
abbrev pub SelectAllocates : Reader → Type 0
SelectAllocates r = NoPrefix EncodesOne (rest r) × SomePrefix EncodesTypeCount (rest r)
