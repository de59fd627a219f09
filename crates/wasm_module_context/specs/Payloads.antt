-- What each payload adds to the context of a module.
-- WebAssembly Core Specification 3.0: Validation, Modules; Binary Format, Modules.
use Rattle.std.specs.Prelude.{◌≡◌, Result, Ok, Err}
use Rattle.wasm_externals.specs.Externals.{export, import}
use Rattle.wasm_externals.specs.Globals.{tag_type}
use Rattle.wasm_externals.specs.Limits.{memory_type}
use Rattle.wasm_grammars.specs.Parts.{u32}
use Rattle.wasm_segments.specs.Elements.{element}
use Rattle.wasm_segments.specs.Globals.{global, table}
use Rattle.wasm_types.specs.Types.{rec_group}
use Rattle.wasm_constants.specs.Constants.{const_expr}
use Rattle.wasm_payloads.specs.declared.payload.Payload.{Payload}
use Rattle.wasm_payloads.specs.declared.payload.Payload.TheVariants as payload
use Rattle.wasm_context.specs.Components.{Components, with_data_segments}
use Rattle.wasm_context.specs.Faults.{function_fault, memory_fault, tag_fault, export_fault, import_fault, start_fault, data_fault}
use Rattle.wasm_below.specs.Source.{offset_of}
use Rattle.wasm_module_context.specs.declared.error.PayloadError.{PayloadError}
use Rattle.wasm_module_context.specs.declared.error.PayloadError.TheVariants as error
use Rattle.wasm_module_context.specs.Items.{AddsItems, FailsItems}
use Rattle.wasm_module_context.specs.Parts.{Becomes, FailsAt, AddsGroup, FailsGroup, AddsImport, AddsFunction, AddsMemory, AddsTag, AddsExport, AddsTable, FailsTable, AddsGlobal, FailsGlobal, AddsElement, FailsElement, AddsDataSection, FailsDataSection}

-- The components after a payload. The start function and data segments are checked, and add nothing;
-- nor do the code and custom sections. There are no other sections.
abbrev pub AddsPayload : Payload → Components → Components → Type 0
AddsPayload (payload.TypeSection s) c d = AddsItems AddsGroup (λ features. rec_group) s.count s.reader c d
AddsPayload (payload.ImportSection s) c d = AddsItems AddsImport import s.count s.reader c d
AddsPayload (payload.FunctionSection s) c d = AddsItems AddsFunction (λ features. u32) s.count s.reader c d
AddsPayload (payload.TableSection s) c d = AddsItems AddsTable (λ features. table features (const_expr features)) s.count s.reader c d
AddsPayload (payload.MemorySection s) c d = AddsItems AddsMemory memory_type s.count s.reader c d
AddsPayload (payload.TagSection s) c d = AddsItems AddsTag (λ features. tag_type) s.count s.reader c d
AddsPayload (payload.GlobalSection s) c d = AddsItems AddsGlobal (λ features. global features (const_expr features)) s.count s.reader c d
AddsPayload (payload.ExportSection s) c d = AddsItems AddsExport (λ features. export) s.count s.reader c d
AddsPayload (payload.ElementSection s) c d = AddsItems AddsElement (λ features. element features (const_expr features)) s.count s.reader c d
AddsPayload (payload.StartSection x range) c d = Becomes (start_fault c x) c d
AddsPayload (payload.DataSection s) c d = AddsDataSection s c d
AddsPayload (payload.DataCountSection n range) c d = Becomes (data_fault n) (with_data_segments c n) d
AddsPayload (payload.UnknownSection id contents) c d = ⊥
AddsPayload _ c d = d ≡ c

-- The error of the first item of a payload that can't be read or added.
abbrev pub FailsPayload : Payload → Components → PayloadError → Type 0
FailsPayload (payload.TypeSection s) c e = FailsItems AddsGroup FailsGroup (λ features. rec_group) s.count s.reader c e
FailsPayload (payload.ImportSection s) c e = FailsItems AddsImport (λ i c at e. FailsAt (import_fault c i.ty) at e) import s.count s.reader c e
FailsPayload (payload.FunctionSection s) c e = FailsItems AddsFunction (λ x c at e. FailsAt (function_fault c x) at e) (λ features. u32) s.count s.reader c e
FailsPayload (payload.TableSection s) c e = FailsItems AddsTable FailsTable (λ features. table features (const_expr features)) s.count s.reader c e
FailsPayload (payload.MemorySection s) c e = FailsItems AddsMemory (λ t c at e. FailsAt (memory_fault c t) at e) memory_type s.count s.reader c e
FailsPayload (payload.TagSection s) c e = FailsItems AddsTag (λ t c at e. FailsAt (tag_fault c t) at e) (λ features. tag_type) s.count s.reader c e
FailsPayload (payload.GlobalSection s) c e = FailsItems AddsGlobal FailsGlobal (λ features. global features (const_expr features)) s.count s.reader c e
FailsPayload (payload.ExportSection s) c e = FailsItems AddsExport (λ x c at e. FailsAt (export_fault c x.kind x.index x.name) at e) (λ features. export) s.count s.reader c e
FailsPayload (payload.ElementSection s) c e = FailsItems AddsElement FailsElement (λ features. element features (const_expr features)) s.count s.reader c e
FailsPayload (payload.StartSection x range) c e = FailsAt (start_fault c x) range.start e
FailsPayload (payload.DataSection s) c e = FailsDataSection s c e
FailsPayload (payload.DataCountSection n range) c e = FailsAt (data_fault n) range.start e
FailsPayload (payload.UnknownSection id contents) c e = e ≡ error.UnknownSection id (offset_of contents)
FailsPayload _ c e = ⊥

-- A payload is added, or the error of its first fault is returned.
abbrev pub ReadsPayload : Payload → Components → Result Components PayloadError → Type 0
ReadsPayload p c (Ok d) = AddsPayload p c d
ReadsPayload p c (Err e) = FailsPayload p c e
