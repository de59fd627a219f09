-- Declarations of locals, bodies and sections, written from C structs and bytes.
-- Specification: Binary Format, Modules: Sections, Code Section.
use Rattle.std.specs.Prelude.{◌≡◌, ℕ, ◌+◌, ◌<◌, ◌≤◌, ◌⊎◌, List, [], ◌∷◌, ◌++◌, length, Option, Some, None}
use Rattle.wasm_below.specs.Number.{EncodesUnsigned}
use Rattle.wasm_below.specs.Sequence.{Then}
use Rattle.wasm_imm.specs.Lists.{EncodesMany}
use Rattle.wasm_encode_numbers.specs.Appended.{Appends, HasNone}
use Rattle.wasm_view.specs.Lists.{written}
use Rattle.wasm_encode_view.specs.declared.section.WasmLocals.{WasmLocals}
use Rattle.wasm_encode_view.specs.Locals.{EncodesType}

-- The number of locals, and a value type with this C struct.
--   locals ::= n:u32 t:valtype
abbrev pub EncodesLocals : List ℕ → WasmLocals → Type 0
EncodesLocals text v = (number ty : List ℕ) × (text ≡ number ++ ty) × EncodesUnsigned 32 number v.count × EncodesType ty v.ty

-- The number of declarations, and each of them.
--   list(X) ::= n:u32 (el:X)^n
abbrev pub EncodesDeclarations : List ℕ → List WasmLocals → Type 0
EncodesDeclarations = Then (EncodesUnsigned 32) (EncodesMany EncodesLocals)

-- A size, and that many bytes: a part that encodes a value, and these bytes.
abbrev pub EncodesSized : {X : Type 0} → (List ℕ → X → Type 0) → X → List ℕ → List ℕ → Type 0
EncodesSized Encodes x text bytes =
    (size part : List ℕ) × (text ≡ size ++ (part ++ bytes)) × EncodesUnsigned 32 size (length (part ++ bytes)) × Encodes part x

-- The size of a body, its declarations of locals, and these bytes of its operators.
--   code ::= len:u32 code:func, if len = ||func||
--   func ::= loc**:list(locals) e:expr
abbrev pub EncodesEntry : List WasmLocals → List ℕ → List ℕ → Type 0
EncodesEntry = EncodesSized EncodesDeclarations

-- The number of a section, its size, how many entries it has, and their bytes.
--   section_N(X) ::= N:byte len:u32 en*:X, if len = ||en*||
abbrev pub EncodesSection : ℕ → ℕ → List ℕ → List ℕ → Type 0
EncodesSection id count text entries = (more : List ℕ) × (text ≡ id ∷ more) × EncodesSized (EncodesUnsigned 32) count more entries

-- The piece is put at an index, as far as it fits. The result is the index after it.
abbrev pub Puts : List ℕ → ℕ → ℕ → List ℕ → List ℕ → Type 0
Puts piece at end old new =
    (end ≡ at + length piece) × ((before room : List ℕ) → at ≡ length before → old ≡ written before room → new ≡ written (before ++ piece) room)

-- The shortest encoding of the value is put at an index. Without an encoding, the result is `None`.
abbrev pub PutsShortest : {X : Type 0} → (List ℕ → X → Type 0) → X → ℕ → Option ℕ → List ℕ → List ℕ → Type 0
PutsShortest Encodes x at (Some end) old new = (text : List ℕ) × Appends Encodes x [] text × Puts text at end old new
PutsShortest Encodes x at None old new = HasNone Encodes x

-- As `PutsShortest` from index 0, after `first` and before `last`.
abbrev pub PutsBetween : {X : Type 0} → (List ℕ → X → Type 0) → List ℕ → X → List ℕ → Option ℕ → List ℕ → List ℕ → Type 0
PutsBetween Encodes first x last (Some end) old new = (text : List ℕ) × Appends Encodes x [] text × Puts (first ++ (text ++ last)) 0 end old new
PutsBetween Encodes first x last None old new = HasNone Encodes x

-- The array starts with the shortest encoding if it fits. Otherwise the array is unchanged, and the error is 102.
-- `count` is the length of the encoding. Without an encoding, nothing changes, and the error is 112.
abbrev pub PlacesShortest : {X : Type 0} → (List ℕ → X → Type 0) → X → ℕ → ℕ → ℕ → List ℕ → List ℕ → Type 0
PlacesShortest Encodes x error count_old count_new old new =
    ((text : List ℕ) × Appends Encodes x [] text × (count_new ≡ length text) ×
    (((length text ≤ length old) × (error ≡ 0) × (new ≡ written text old)) ⊎
    ((length old < length text) × (error ≡ 102) × (new ≡ old))))
    ⊎ (HasNone Encodes x × (error ≡ 112) × (count_new ≡ count_old) × (new ≡ old))
