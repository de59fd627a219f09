-- Imports, exports and their types as C structs. Specification: Binary Format, External Types, Import
-- Section, Export Section.
use Rattle.std.specs.Prelude.{ℕ, ◌+◌, Bool, true, false, is_some}
use Rattle.std.specs.Option.{unwrap_or}
use Rattle.wasm_below.specs.declared.features.WasmFeatures.{WasmFeatures}
use Rattle.wasm_below.specs.declared.types.ValType.TheVariants as value
use Rattle.wasm_c_sections.specs.declared.external.WasmExternal.{WasmExternal}
use Rattle.wasm_c_sections.specs.declared.named.WasmExport.{WasmExport}
use Rattle.wasm_c_sections.specs.declared.named.WasmImport.{WasmImport}
use Rattle.wasm_c_sections.specs.Ranges.{placed_text}
use Rattle.wasm_externals.specs.declared.external.ExternalKind.{ExternalKind}
use Rattle.wasm_externals.specs.declared.external.ExternalKind.TheVariants as kind
use Rattle.wasm_externals.specs.declared.external.TypeRef.{TypeRef}
use Rattle.wasm_externals.specs.declared.external.TypeRef.TheVariants as ty
use Rattle.wasm_externals.specs.declared.global_type.GlobalType.{GlobalType}
use Rattle.wasm_externals.specs.declared.memory_type.MemoryType.{MemoryType}
use Rattle.wasm_externals.specs.declared.table_type.TableType.{TableType}
use Rattle.wasm_externals.specs.Externals.{external_kind, type_ref}
use Rattle.wasm_grammars.specs.Grammar.{Grammar, done, thing}
use Rattle.wasm_grammars.specs.Parts.{◌>>=◌, u32}
use Rattle.wasm_view.specs.declared.members.WasmType.{WasmType}
use Rattle.wasm_view.specs.Members.{type_of}

-- The weight of a flag that is set, else 0.
abbrev pub flag : Bool → ℕ → ℕ
flag true weight = weight
flag false weight = 0

abbrev pub no_type : WasmType
no_type = record { kind = 0; index = 0 }

-- The numbers are the bytes of the binary format.
abbrev pub kind_number : ExternalKind → ℕ
kind_number kind.Func = 0
kind_number kind.Table = 1
kind_number kind.Memory = 2
kind_number kind.Global = 3
kind_number kind.Tag = 4

-- The flags are 1 for a maximum, 2 for shared, 4 for indices of type i64.
abbrev pub table_of : TableType → WasmExternal
table_of t = record {
  initial = t.initial;
  maximum = unwrap_or t.maximum 0;
  ty = type_of (value.Ref t.element_type);
  kind = 1;
  index = 0;
  flags = flag (is_some t.maximum) 1 + flag t.shared 2 + flag t.table64 4;
  page_size_log2 = 0;
}

-- The flags are 1 for a maximum, 2 for shared, 4 for addresses of type i64, 8 for a page size.
abbrev pub memory_of : MemoryType → WasmExternal
memory_of m = record {
  initial = m.initial;
  maximum = unwrap_or m.maximum 0;
  ty = no_type;
  kind = 2;
  index = 0;
  flags = flag (is_some m.maximum) 1 + flag m.shared 2 + flag m.memory64 4 + flag (is_some m.page_size_log2) 8;
  page_size_log2 = unwrap_or m.page_size_log2 0;
}

-- The flags are 2 for shared, 16 for mutable.
abbrev pub global_of : GlobalType → WasmExternal
global_of g = record {
  initial = 0;
  maximum = 0;
  ty = type_of g.content_type;
  kind = 3;
  index = 0;
  flags = flag g.shared 2 + flag g.mutable 16;
  page_size_log2 = 0;
}

-- A function or a tag, whose type has this index.
abbrev pub indexed : ℕ → ℕ → WasmExternal
indexed kind index = record { initial = 0; maximum = 0; ty = no_type; kind = kind; index = index; flags = 0; page_size_log2 = 0 }

-- The C struct of a type.
abbrev pub external_of : TypeRef → WasmExternal
external_of (ty.Func index) = indexed 0 index
external_of (ty.Table t) = table_of t
external_of (ty.Memory m) = memory_of m
external_of (ty.Global g) = global_of g
external_of (ty.Tag t) = indexed 4 t.func_type_idx

abbrev pub external_item : WasmFeatures → Grammar WasmExternal
external_item features = do
  ty ← thing (type_ref features)
  done (external_of ty)

-- import ::= nm1:name nm2:name xt:externtype
abbrev pub placed_import : WasmFeatures → Grammar WasmImport
placed_import features = do
  from ← thing placed_text
  name ← thing placed_text
  ty ← thing (external_item features)
  done (record { «module» = from; name = name; ty = ty })

-- export ::= nm:name xx:externidx
abbrev pub placed_export : Grammar WasmExport
placed_export = do
  name ← thing placed_text
  kind ← thing external_kind
  index ← u32
  done (record { name = name; kind = kind_number kind; index = index })
