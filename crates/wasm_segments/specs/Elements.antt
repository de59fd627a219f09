-- Specification: Binary Format, Element Section. Bit 0 of the number at the start says that the segment
-- is passive or declarative, bit 1 that a table's index follows, or that it is declarative, and bit 2
-- that expressions follow in place of function indices.
use Rattle.std.specs.Prelude.{ℕ, ◌%◌, ◌==◌, leb, Bool, true, false}
use Rattle.wasm_below.specs.declared.features.WasmFeatures.{WasmFeatures}
use Rattle.wasm_below.specs.declared.malformed.Malformed.TheVariants as malformed
use Rattle.wasm_below.specs.declared.message.LeadingByteName.TheVariants as leading_byte_name
use Rattle.wasm_below.specs.declared.message.Message.TheVariants as message
use Rattle.wasm_below.specs.declared.types.AbstractHeapType.TheVariants as abstract
use Rattle.wasm_below.specs.declared.types.HeapType.TheVariants as heap
use Rattle.wasm_below.specs.Reference.{Reference}
use Rattle.wasm_grammars.specs.Grammar.{Grammar, done, choose, thing}
use Rattle.wasm_grammars.specs.Parts.{◌>>=◌, ◌>>◌, require, byte, u32, u32_where, ref_type}
use Rattle.wasm_segments.specs.declared.element.Element.{Element}
use Rattle.wasm_segments.specs.declared.element.ElementItems.{ElementItems}
use Rattle.wasm_segments.specs.declared.element.ElementItems.TheVariants as list
use Rattle.wasm_segments.specs.declared.element.ElementKind.{ElementKind}
use Rattle.wasm_segments.specs.declared.element.ElementKind.TheVariants as kind
use Rattle.wasm_segments.specs.Flags.{has_flag, index_if}
use Rattle.wasm_segments.specs.Items.{items}

abbrev pub inactive : {C : Type 0} → Bool → ElementKind C
inactive true = kind.Declared
inactive false = kind.Passive

-- A table's index, if flagged, and the offset in the table.
abbrev pub active : {C : Type 0} → Grammar C → ℕ → Grammar (ElementKind C)
active constant flags = do
  index ← thing (index_if (has_flag flags 2))
  offset ← thing constant
  done (kind.Active index offset)

abbrev pub element_kind : {C : Type 0} → Grammar C → ℕ → Grammar (ElementKind C)
element_kind constant flags = choose (has_flag flags 1) (done (inactive (has_flag flags 2))) (active constant flags)

--   elemkind ::= 0x00
-- The errors of another byte are wasmparser's, which reads the kind of an external.
abbrev pub function_kind : Grammar ℕ
function_kind = do
  b ← byte
  require (leb b 4) (message.InvalidLeadingByte b leading_byte_name.ExternalKind)
  require (b == 0) (message.Malformed malformed.ElementKind)
  done b

-- The kind, which is not written if the flags are 0 or 4.
abbrev pub kind_if : ℕ → Grammar ℕ
kind_if flags = choose (flags % 4 == 0) (done 0) function_kind

abbrev pub funcref : Reference
funcref = record { nullable = true; heap_type = heap.Abstract false abstract.Func }

-- The type, which is not written if the flags are 0 or 4.
abbrev pub type_if : ℕ → Grammar Reference
type_if flags = choose (flags % 4 == 0) (done funcref) ref_type

abbrev pub functions : {C : Type 0} → WasmFeatures → ℕ → Grammar (ElementItems C)
functions features flags = do
  kind ← thing (kind_if flags)
  found ← thing (items features u32)
  done (list.Functions found)

abbrev pub expressions : {C : Type 0} → WasmFeatures → Grammar C → ℕ → Grammar (ElementItems C)
expressions features constant flags = do
  ty ← thing (type_if flags)
  found ← thing (items features constant)
  done (list.Expressions ty found)

abbrev pub element_items : {C : Type 0} → WasmFeatures → Grammar C → ℕ → Grammar (ElementItems C)
element_items features constant flags = choose (has_flag flags 4) (expressions features constant flags) (functions features flags)

--   elem ::= 0:u32 e:expr y*:list(funcidx)
--          | 1:u32 elemkind y*:list(funcidx)
--          | 2:u32 x:tableidx e:expr elemkind y*:list(funcidx)
--          | 3:u32 elemkind y*:list(funcidx)
--          | 4:u32 e:expr e*:list(expr)
--          | 5:u32 rt:reftype e*:list(expr)
--          | 6:u32 x:tableidx e:expr rt:reftype e*:list(expr)
--          | 7:u32 rt:reftype e*:list(expr)
abbrev pub element : {C : Type 0} → WasmFeatures → Grammar C → Grammar (Element C)
element features constant = do
  flags ← thing (u32_where (λ n. leb n 7) (message.Malformed malformed.ElementFlags))
  kind ← thing (element_kind constant flags)
  found ← thing (element_items features constant flags)
  done (record { kind = kind; items = found })
