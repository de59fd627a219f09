-- Specification: Binary Format, Limits, Memory Types, Table Types. The flags are 1 for a maximum, 2 for
-- shared (proposal threads), 4 for addresses of type i64, 8 for a page size (proposal custom page
-- sizes).
use Rattle.std.specs.Prelude.{ℕ, ◌==◌, Bool, leb, Option, None, Some}
use Rattle.std.specs.Int.RustNames.{bit_and}
use Rattle.wasm_below.specs.declared.features.WasmFeatures.{WasmFeatures}
use Rattle.wasm_below.specs.declared.malformed.Malformed.TheVariants as malformed
use Rattle.wasm_below.specs.declared.message.Message.TheVariants as message
use Rattle.wasm_below.specs.Features.{memory64}
use Rattle.wasm_grammars.specs.Grammar.{Grammar, done, bind, choose, thing}
use Rattle.wasm_grammars.specs.Parts.{◌>>=◌, ◌>>◌, require, u32, u64, ref_type}
use Rattle.wasm_externals.specs.declared.memory_type.MemoryType.{MemoryType}
use Rattle.wasm_externals.specs.declared.table_type.TableType.{TableType}
use Rattle.wasm_externals.specs.Flags.{flags, has_flag}

abbrev pub contains : WasmFeatures → WasmFeatures → Bool
contains features feature = bit_and features.0 feature.0 == feature.0

-- A size: a u64 with memory64, a u32 without it, whatever the flags are.
abbrev pub address : WasmFeatures → Grammar ℕ
address features = choose (contains features memory64) u64 u32

-- A size if the flags have 1.
abbrev pub maximum : ℕ → WasmFeatures → Grammar (Option ℕ)
maximum byte features = choose (has_flag byte 1) (bind (thing (address features)) (λ n. done (Some n))) (done None)

-- tabletype ::= rt:reftype (at, lim):limits ⇒ at lim rt
abbrev pub table_type : WasmFeatures → Grammar TableType
table_type features = do
  element ← ref_type
  byte ← thing (flags 7 malformed.TableFlags)
  initial ← thing (address features)
  most ← thing (maximum byte features)
  done (record { element_type = element; table64 = has_flag byte 4; initial = initial; maximum = most; shared = has_flag byte 2 })

abbrev pub some_page_size : Grammar (Option ℕ)
some_page_size = do
  log2 ← u32
  require (leb log2 63) (message.Malformed malformed.PageSize)
  done (Some log2)

-- The logarithm of a page size to base 2, if the flags have 8.
abbrev pub page_size : ℕ → Grammar (Option ℕ)
page_size byte = choose (has_flag byte 8) some_page_size (done None)

-- memtype ::= (at, lim):limits ⇒ at lim page
abbrev pub memory_type : WasmFeatures → Grammar MemoryType
memory_type features = do
  byte ← thing (flags 15 malformed.MemoryFlags)
  initial ← thing (address features)
  most ← thing (maximum byte features)
  log2 ← page_size byte
  done (record { memory64 = has_flag byte 4; shared = has_flag byte 2; initial = initial; maximum = most; page_size_log2 = log2 })
