-- A payload gives one context, or is in error.
use Rattle.std.proofs.Common.{◌≡◌, ◌∙◌, sym}
use Rattle.wasm_externals.specs.Externals.{export, import}
use Rattle.wasm_externals.specs.Globals.{tag_type}
use Rattle.wasm_externals.specs.Limits.{memory_type}
use Rattle.wasm_grammars.specs.Parts.{u32}
use Rattle.wasm_segments.specs.Elements.{element}
use Rattle.wasm_segments.specs.Globals.{global, table}
use Rattle.wasm_types.specs.Types.{rec_group}
use Rattle.wasm_constants.specs.Constants.{const_expr}
use Rattle.wasm_payloads.specs.declared.payload.Payload.{Payload}
use Rattle.wasm_payloads.specs.declared.payload.Payload.TheVariants as payload
use Rattle.wasm_context.specs.Components.{Components}
use Rattle.wasm_context.specs.Faults.{function_fault, memory_fault, tag_fault, export_fault, import_fault, start_fault, data_fault}
use Rattle.wasm_module_context.specs.declared.error.PayloadError.{PayloadError}
use Rattle.wasm_module_context.specs.Exhaustion.{IsExhausted}
use Rattle.wasm_module_context.specs.Parts.{FailsAt, AddsGroup, FailsGroup, AddsImport, AddsFunction, AddsMemory, AddsTag, AddsExport, AddsTable, FailsTable, AddsGlobal, FailsGlobal, AddsElement, FailsElement}
use Rattle.wasm_module_context.specs.Payloads.{AddsPayload, FailsPayload}
use Rattle.wasm_module_context.proofs.OneContext.{AddsOnce, items_once, items_or_error, becomes_once, fine_or_fails}
use Rattle.wasm_module_context.proofs.OneItem.{one_group, group_or_fails, one_table, table_or_fails, one_global, global_or_fails, one_element, element_or_fails, one_data_section, data_section_or_fails}

one_import : AddsOnce AddsImport
one_import i c d e a b = becomes_once a b

one_function : AddsOnce AddsFunction
one_function x c d e a b = becomes_once a b

one_memory : AddsOnce AddsMemory
one_memory t c d e a b = becomes_once a b

one_tag : AddsOnce AddsTag
one_tag t c d e a b = becomes_once a b

one_export : AddsOnce AddsExport
one_export x c d e a b = becomes_once a b

pub one_after : (p : Payload) (c d e : Components) → AddsPayload p c d → AddsPayload p c e → d ≡ e
one_after (payload.TypeSection s) c d e a b = items_once AddsGroup (λ features. rec_group) one_group s.count s.reader c d e a b
one_after (payload.ImportSection s) c d e a b = items_once AddsImport import one_import s.count s.reader c d e a b
one_after (payload.FunctionSection s) c d e a b = items_once AddsFunction (λ features. u32) one_function s.count s.reader c d e a b
one_after (payload.TableSection s) c d e a b = items_once AddsTable (λ features. table features (const_expr features)) one_table s.count s.reader c d e a b
one_after (payload.MemorySection s) c d e a b = items_once AddsMemory memory_type one_memory s.count s.reader c d e a b
one_after (payload.TagSection s) c d e a b = items_once AddsTag (λ features. tag_type) one_tag s.count s.reader c d e a b
one_after (payload.GlobalSection s) c d e a b = items_once AddsGlobal (λ features. global features (const_expr features)) one_global s.count s.reader c d e a b
one_after (payload.ExportSection s) c d e a b = items_once AddsExport (λ features. export) one_export s.count s.reader c d e a b
one_after (payload.ElementSection s) c d e a b = items_once AddsElement (λ features. element features (const_expr features)) one_element s.count s.reader c d e a b
one_after (payload.StartSection x range) c d e a b = becomes_once a b
one_after (payload.DataSection s) c d e a b = one_data_section s c d e a b
one_after (payload.UnknownSection id contents) c d e a b = absurd a
one_after (payload.DataCountSection n range) c d e a b = becomes_once a b
one_after p c d e a b = a ∙ sym b

pub added_or_fails : (p : Payload) (c d : Components) (e : PayloadError) → (IsExhausted e → ⊥) → AddsPayload p c d → FailsPayload p c e → ⊥
added_or_fails (payload.TypeSection s) c d e known a f = items_or_error AddsGroup (λ features. rec_group) one_group FailsGroup group_or_fails s.count s.reader c d e known a f
added_or_fails (payload.ImportSection s) c d e known a f = items_or_error AddsImport import one_import (λ i c at e. FailsAt (import_fault c i.ty) at e)
    (λ i c d at e known a f. fine_or_fails (import_fault c i.ty) at e known a.0 f) s.count s.reader c d e known a f
added_or_fails (payload.FunctionSection s) c d e known a f = items_or_error AddsFunction (λ features. u32) one_function (λ x c at e. FailsAt (function_fault c x) at e)
    (λ x c d at e known a f. fine_or_fails (function_fault c x) at e known a.0 f) s.count s.reader c d e known a f
added_or_fails (payload.TableSection s) c d e known a f =
    items_or_error AddsTable (λ features. table features (const_expr features)) one_table FailsTable table_or_fails s.count s.reader c d e known a f
added_or_fails (payload.MemorySection s) c d e known a f = items_or_error AddsMemory memory_type one_memory (λ t c at e. FailsAt (memory_fault c t) at e)
    (λ t c d at e known a f. fine_or_fails (memory_fault c t) at e known a.0 f) s.count s.reader c d e known a f
added_or_fails (payload.TagSection s) c d e known a f = items_or_error AddsTag (λ features. tag_type) one_tag (λ t c at e. FailsAt (tag_fault c t) at e)
    (λ t c d at e known a f. fine_or_fails (tag_fault c t) at e known a.0 f) s.count s.reader c d e known a f
added_or_fails (payload.GlobalSection s) c d e known a f =
    items_or_error AddsGlobal (λ features. global features (const_expr features)) one_global FailsGlobal global_or_fails s.count s.reader c d e known a f
added_or_fails (payload.ExportSection s) c d e known a f = items_or_error AddsExport (λ features. export) one_export (λ x c at e. FailsAt (export_fault c x.kind x.index x.name) at e)
    (λ x c d at e known a f. fine_or_fails (export_fault c x.kind x.index x.name) at e known a.0 f) s.count s.reader c d e known a f
added_or_fails (payload.ElementSection s) c d e known a f =
    items_or_error AddsElement (λ features. element features (const_expr features)) one_element FailsElement element_or_fails s.count s.reader c d e known a f
added_or_fails (payload.StartSection x range) c d e known a f = fine_or_fails (start_fault c x) range.start e known a.0 f
added_or_fails (payload.DataSection s) c d e known a f = data_section_or_fails s c d e known a f
added_or_fails (payload.UnknownSection id contents) c d e known a f = absurd a
added_or_fails (payload.DataCountSection n range) c d e known a f = fine_or_fails (data_fault n) range.start e known a.0 f
added_or_fails p c d e known a f = absurd f
