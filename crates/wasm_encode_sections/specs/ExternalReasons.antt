-- Why external types, texts, imports and exports have no encoding: the limits of wasm_externals.
use Rattle.std.specs.Prelude.{◌≡◌, ◌≢◌, ℕ, ◌<◌, ◌≤◌, ◌^◌, ◌⊎◌, false, List, length, Option, Some, None}
use Rattle.wasm_below.specs.declared.features.WasmFeatures.{WasmFeatures}
use Rattle.wasm_below.specs.declared.malformed.Malformed.TheVariants as malformed
use Rattle.wasm_below.specs.declared.message.Message.{Message}
use Rattle.wasm_below.specs.declared.message.Message.TheVariants as message
use Rattle.wasm_below.specs.declared.message.NumberName.TheVariants as number_name
use Rattle.wasm_below.specs.Features.{memory64}
use Rattle.wasm_externals.specs.declared.export.Export.{Export}
use Rattle.wasm_externals.specs.declared.external.TypeRef.{TypeRef}
use Rattle.wasm_externals.specs.declared.external.TypeRef.TheVariants as ty
use Rattle.wasm_externals.specs.declared.import.Import.{Import}
use Rattle.wasm_externals.specs.declared.memory_type.MemoryType.{MemoryType}
use Rattle.wasm_externals.specs.declared.table_type.TableType.{TableType}
use Rattle.wasm_externals.specs.Limits.{contains}
use Rattle.wasm_externals.specs.Texts.{max_text_size}

-- The size needs more than 32 bits, and memory64 is off.
abbrev pub AddressReason : WasmFeatures → ℕ → Message → Type 0
AddressReason features n m = (m ≡ message.IntegerTooLarge number_name.VarU32) × (contains features memory64 ≡ false) × (2 ^ 32 ≤ n)

abbrev pub MaximumReason : WasmFeatures → Option ℕ → Message → Type 0
MaximumReason features None m = ⊥
MaximumReason features (Some n) m = AddressReason features n m

-- The logarithm of the page size is above 63.
abbrev pub PageReason : Option ℕ → Message → Type 0
PageReason None m = ⊥
PageReason (Some log2) m = (m ≡ message.Malformed malformed.PageSize) × (63 < log2)

abbrev pub TableReason : WasmFeatures → TableType → Message → Type 0
TableReason features t m = AddressReason features t.initial m ⊎ MaximumReason features t.maximum m

abbrev pub MemoryReason : WasmFeatures → MemoryType → Message → Type 0
MemoryReason features t m = AddressReason features t.initial m ⊎ (MaximumReason features t.maximum m ⊎ PageReason t.page_size_log2 m)

abbrev pub RefReason : WasmFeatures → TypeRef → Message → Type 0
RefReason features (ty.Table t) m = TableReason features t m
RefReason features (ty.Memory t) m = MemoryReason features t m
RefReason features _ m = ⊥

-- The text has more than 100,000 bytes.
abbrev pub TextReason : List ℕ → Message → Type 0
TextReason text m = (m ≡ message.Malformed malformed.StringSize) × (max_text_size < length text)

abbrev pub ImportReason : WasmFeatures → Import → Message → Type 0
ImportReason features i m = TextReason i.«module» m ⊎ (TextReason i.name m ⊎ RefReason features i.ty m)

abbrev pub ExportReason : Export → Message → Type 0
ExportReason e m = TextReason e.name m
