-- What the contents of one section are. Specification: Binary Format, Modules.
use Rattle.std.specs.Prelude.{◌≡◌, ◌≢◌, ℕ, ◌<◌, ◌⊎◌, Result, Ok, Err}
use Rattle.wasm_below.specs.declared.error.Error.{Error}
use Rattle.wasm_below.specs.declared.malformed.Malformed.TheVariants as malformed
use Rattle.wasm_below.specs.declared.message.Message.TheVariants as message
use Rattle.wasm_below.specs.Source.{Reader, rest, offset_of, end_of}
use Rattle.wasm_grammars.specs.Grammar.{Encodes, HasReadBy}
use Rattle.wasm_grammars.specs.Parts.{u32}
use Rattle.wasm_grammars.specs.Reading.{Fails}
use Rattle.wasm_externals.specs.Texts.{text}
use Rattle.wasm_sections.specs.Items.{FailsAll}
use Rattle.wasm_payloads.specs.declared.payload.Payload.{Payload}
use Rattle.wasm_payloads.specs.declared.payload.Payload.TheVariants as payload

-- The payload of a section with this id and these contents, which may not be the code section. For
-- a list of items, the number of items was read.
abbrev pub IsPayload : ℕ → Reader → Payload → Type 0
IsPayload id c (payload.TypeSection s) = (id ≡ 1) × HasReadBy u32 s.count c s.reader
IsPayload id c (payload.ImportSection s) = (id ≡ 2) × HasReadBy u32 s.count c s.reader
IsPayload id c (payload.FunctionSection s) = (id ≡ 3) × HasReadBy u32 s.count c s.reader
IsPayload id c (payload.TableSection s) = (id ≡ 4) × HasReadBy u32 s.count c s.reader
IsPayload id c (payload.MemorySection s) = (id ≡ 5) × HasReadBy u32 s.count c s.reader
IsPayload id c (payload.GlobalSection s) = (id ≡ 6) × HasReadBy u32 s.count c s.reader
IsPayload id c (payload.ExportSection s) = (id ≡ 7) × HasReadBy u32 s.count c s.reader
IsPayload id c (payload.ElementSection s) = (id ≡ 9) × HasReadBy u32 s.count c s.reader
IsPayload id c (payload.DataSection s) = (id ≡ 11) × HasReadBy u32 s.count c s.reader
IsPayload id c (payload.TagSection s) = (id ≡ 13) × HasReadBy u32 s.count c s.reader
IsPayload id c (payload.StartSection func range) = (id ≡ 8) × Encodes u32 (offset_of c) (rest c) func × (range.start ≡ c.start) × (range.end ≡ end_of c)
IsPayload id c (payload.DataCountSection count range) = (id ≡ 12) × Encodes u32 (offset_of c) (rest c) count × (range.start ≡ c.start) × (range.end ≡ end_of c)
IsPayload id c (payload.CustomSection s) = (id ≡ 0) × HasReadBy text s.name c s.reader
IsPayload id c (payload.UnknownSection other contents) = (other ≡ id) × (contents ≡ c) × ((id ≡ 10) ⊎ (13 < id))
IsPayload id c _ = ⊥

-- Sections with this id start with a number of items.
abbrev pub HasItems : ℕ → Type 0
HasItems id = (0 < id) × (id < 14) × (id ≢ 8) × (id ≢ 10) × (id ≢ 12)

-- The contents are in error: a custom section's name, the number of items, or the contents of the
-- sections `start` and data count.
abbrev pub FailsPayload : ℕ → Error → Reader → Type 0
FailsPayload id e c = ((id ≡ 0) × Fails text (offset_of c) e c) ⊎ ((HasItems id × Fails u32 (offset_of c) e c) ⊎
    (((id ≡ 8) × FailsAll u32 (message.Malformed malformed.StartContent) e c) ⊎ ((id ≡ 12) × FailsAll u32 (message.Malformed malformed.DataCountContent) e c)))

abbrev pub ReadsPayload : ℕ → Result Payload Error → Reader → Type 0
ReadsPayload id (Ok p) c = IsPayload id c p
ReadsPayload id (Err e) c = FailsPayload id e c
