-- A module whose code section has the shortest encodings.
-- Specification: Binary Format, Modules: Sections, Custom Section, Code Section, Modules.
use Rattle.std.specs.Prelude.{◌≡◌, ◌≢◌, ◌⊎◌, ℕ, ◌≤◌, List, [], ◌∷◌, ◌++◌, length, Bool, true, false}
use Rattle.wasm_below.specs.declared.features.WasmFeatures.{WasmFeatures}
use Rattle.wasm_below.specs.Features.{all_features}
use Rattle.wasm_below.specs.Number.{EncodesUnsigned}
use Rattle.wasm_instr.specs.declared.operator.Operator.{Operator}
use Rattle.wasm_operators.specs.Body.{EncodesBody}
use Rattle.wasm_operators.specs.Expression.{Placed, operators}
use Rattle.wasm_operators.specs.Locals.{Declaration}
use Rattle.wasm_module.specs.declared.preamble.Preamble.{Preamble}
use Rattle.wasm_module.specs.declared.preamble.PreambleKind.TheVariants as kind
use Rattle.wasm_module.specs.Module.{EncodesPreamble, preamble_kind}
use Rattle.wasm_module.specs.Names.{EncodesName}
use Rattle.wasm_encode.specs.Shortened.{AreEqualByTargets}
use Rattle.wasm_encode.specs.Writing.{source_at}
use Rattle.wasm_compaction.specs.declared.custom.Choices.{Choices}
use Rattle.wasm_compaction.specs.declared.custom.CustomKind.TheVariants as custom
use Rattle.wasm_compaction.specs.Blocks.{IsShortest, EncodesBlock, InSequence}
use Rattle.wasm_compaction.specs.Custom.{custom_kind, is_listed}

-- The bytes encode declarations of locals, and an expression with these operators.
--   func ::= loc**:list(locals) e:expr ⇒ concat(loc**) e
abbrev pub EncodesFunction : WasmFeatures → List ℕ → List Declaration → List Operator → Type 0
EncodesFunction f text declarations ops = (placed : Placed) × (operators placed ≡ ops) × EncodesBody (source_at f text) declarations placed

-- The two bodies have the same locals, and operators that are equal by the targets of branch tables.
-- No body with these is shorter than the second.
pub record CompactsFunction (f : WasmFeatures) (old new : List ℕ) : Type 0 where
  pub declarations : List Declaration
  pub ops : List Operator
  pub others : List Operator
  pub encodes : EncodesFunction f old declarations ops
  pub encodes_again : EncodesFunction f new declarations others
  pub same : AreEqualByTargets ops others
  pub shortest : (other : List ℕ) (more : List Operator) → AreEqualByTargets ops more → EncodesFunction f other declarations more → length new ≤ length other

-- The size of a body and the body become the size and the body of `CompactsFunction`.
--   code ::= len:u32 code:func, if len = ||func||
abbrev pub CompactsBody : WasmFeatures → List ℕ → List ℕ → Type 0
CompactsBody f old new = (body compacted : List ℕ) × EncodesBlock old body × IsShortest EncodesBlock new compacted × CompactsFunction f body compacted

-- The contents of a code section: the number of bodies, and each of them.
--   codesec ::= code*:section_10(list(code))
pub record CompactsCode (f : WasmFeatures) (old new : List ℕ) : Type 0 where
  pub count : ℕ
  pub number : List ℕ
  pub bodies : List ℕ
  pub parts : old ≡ number ++ bodies
  pub counted : EncodesUnsigned 32 number count
  pub number_again : List ℕ
  pub bodies_again : List ℕ
  pub parts_again : new ≡ number_again ++ bodies_again
  pub counted_again : IsShortest (EncodesUnsigned 32) number_again count
  pub each : InSequence (CompactsBody f) count bodies bodies_again

-- The contents of a custom section start with this name.
--   custom ::= name byte*
abbrev pub IsNamed : List ℕ → List ℕ → Type 0
IsNamed contents name = (text more : List ℕ) × (contents ≡ text ++ more) × EncodesName text name

-- Custom sections with this name are kept.
abbrev pub IsKept : Choices → List ℕ → Type 0
IsKept c name = (custom_kind name ≡ custom.Independent) ⊎ ((custom_kind name ≡ custom.Other) × (is_listed c.keep.now name ≡ true))

-- Custom sections with this name are dropped.
abbrev pub IsDropped : Choices → List ℕ → Type 0
IsDropped c name = (custom_kind name ≡ custom.Offsets) × (c.drop_offsets ≡ true)

-- The custom section with these contents is dropped, or it is kept.
abbrev pub HasFate : Choices → List ℕ → Bool → Type 0
HasFate c contents true = (name : List ℕ) × IsNamed contents name × IsDropped c name
HasFate c contents false = (name : List ℕ) × IsNamed contents name × IsKept c name

-- What is in the place of the section `old` with this number and these contents: the code section
-- with other contents, nothing, or the same bytes.
abbrev pub Becomes : Choices → ℕ → List ℕ → List ℕ → List ℕ → Type 0
Becomes c id contents old new =
    ((id ≡ 10) × (code block : List ℕ) × (new ≡ 10 ∷ block) × IsShortest EncodesBlock block code × CompactsCode all_features contents code) ⊎
    (((id ≡ 0) × (new ≡ []) × HasFate c contents true) ⊎
    ((id ≢ 10) × (new ≡ old) × (id ≡ 0 → HasFate c contents false)))

-- A section, and what is in its place.
--   section_N(X) ::= N:byte len:u32 en*:X
pub record CompactsSection (c : Choices) (old new : List ℕ) : Type 0 where
  pub id : ℕ
  pub contents : List ℕ
  pub block : List ℕ
  pub parts : old ≡ id ∷ block
  pub encodes : EncodesBlock block contents
  pub becomes : Becomes c id contents old new

-- The bytes are the preamble of a module.
--   magic version
abbrev pub IsPreamble : List ℕ → Type 0
IsPreamble text = (p : Preamble) × EncodesPreamble text p × (preamble_kind p ≡ kind.Module)

-- Two modules: the preamble is the same, and each section of the second is in the place of one of the
-- first.
pub record Compacts (c : Choices) (old new : List ℕ) : Type 0 where
  pub preamble : List ℕ
  pub is_preamble : IsPreamble preamble
  pub count : ℕ
  pub sections : List ℕ
  pub parts : old ≡ preamble ++ sections
  pub sections_again : List ℕ
  pub parts_again : new ≡ preamble ++ sections_again
  pub each : InSequence (CompactsSection c) count sections sections_again
