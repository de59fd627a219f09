-- Specification: Binary Format, External Types, Import Section, Export Section.
use Rattle.std.specs.Prelude.{ℕ, leb, zero, suc}
use Rattle.wasm_below.specs.declared.features.WasmFeatures.{WasmFeatures}
use Rattle.wasm_below.specs.declared.message.LeadingByteName.TheVariants as leading_byte_name
use Rattle.wasm_below.specs.declared.message.Message.TheVariants as message
use Rattle.wasm_grammars.specs.Grammar.{Grammar, done, bind, thing}
use Rattle.wasm_grammars.specs.Parts.{◌>>=◌, ◌>>◌, require, byte, u32}
use Rattle.wasm_externals.specs.declared.export.Export.{Export}
use Rattle.wasm_externals.specs.declared.external.ExternalKind.{ExternalKind}
use Rattle.wasm_externals.specs.declared.external.ExternalKind.TheVariants as kind
use Rattle.wasm_externals.specs.declared.external.TypeRef.{TypeRef}
use Rattle.wasm_externals.specs.declared.external.TypeRef.TheVariants as ty
use Rattle.wasm_externals.specs.declared.import.Import.{Import}
use Rattle.wasm_externals.specs.Globals.{global_type, tag_type}
use Rattle.wasm_externals.specs.Limits.{table_type, memory_type}
use Rattle.wasm_externals.specs.Texts.{text}

-- The kind of a byte of at most 4.
abbrev pub kind_at : ℕ → ExternalKind
kind_at zero = kind.Func
kind_at (suc zero) = kind.Table
kind_at (suc (suc zero)) = kind.Memory
kind_at (suc (suc (suc zero))) = kind.Global
kind_at _ = kind.Tag

-- The byte before an external type, or an index of this kind.
--   0x00 ⇒ func | 0x01 ⇒ table | 0x02 ⇒ mem | 0x03 ⇒ global | 0x04 ⇒ tag
abbrev pub external_kind : Grammar ExternalKind
external_kind = do
  b ← byte
  require (leb b 4) (message.InvalidLeadingByte b leading_byte_name.ExternalKind)
  done (kind_at b)

-- The type of an external of this kind.
abbrev pub type_of : ExternalKind → WasmFeatures → Grammar TypeRef
type_of kind.Func features = bind u32 (λ index. done (ty.Func index))
type_of kind.Table features = bind (thing (table_type features)) (λ t. done (ty.Table t))
type_of kind.Memory features = bind (thing (memory_type features)) (λ t. done (ty.Memory t))
type_of kind.Global features = bind (thing global_type) (λ t. done (ty.Global t))
type_of kind.Tag features = bind (thing tag_type) (λ t. done (ty.Tag t))

-- externtype ::= 0x00 x:typeidx ⇒ func x | 0x01 tt:tabletype ⇒ table tt | 0x02 mt:memtype ⇒ mem mt
--              | 0x03 gt:globaltype ⇒ global gt | 0x04 jt:tagtype ⇒ tag jt
abbrev pub type_ref : WasmFeatures → Grammar TypeRef
type_ref features = do
  kind ← thing external_kind
  thing (type_of kind features)

-- import ::= nm1:name nm2:name xt:externtype ⇒ import nm1 nm2 xt
abbrev pub import : WasmFeatures → Grammar Import
import features = do
  from ← thing text
  name ← thing text
  ty ← thing (type_ref features)
  done (record { «module» = from; name = name; ty = ty })

-- export ::= nm:name xx:externidx ⇒ export nm xx
abbrev pub export : Grammar Export
export = do
  name ← thing text
  kind ← thing external_kind
  index ← u32
  done (record { name = name; kind = kind; index = index })
