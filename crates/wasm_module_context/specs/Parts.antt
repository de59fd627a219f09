-- What the items of each section add to the context of a module.
-- WebAssembly Core Specification 3.0: Validation, Modules.
use Rattle.std.specs.Prelude.{◌≡◌, ℕ, ◌++◌, Bool, true, false, if◌then◌else◌, length, Option, Some, None, ◌⊎◌}
use Rattle.wasm_below.specs.declared.types.AbstractHeapType.TheVariants as abstract
use Rattle.wasm_below.specs.declared.types.HeapType.TheVariants as heap
use Rattle.wasm_below.specs.declared.types.ValType.{ValType}
use Rattle.wasm_below.specs.declared.types.ValType.TheVariants as value
use Rattle.wasm_below.specs.Reference.{Reference}
use Rattle.wasm_below.specs.Source.{Reader}
use Rattle.wasm_externals.specs.declared.export.Export.{Export}
use Rattle.wasm_externals.specs.declared.external.ExternalKind.TheVariants as kind
use Rattle.wasm_externals.specs.declared.import.Import.{Import}
use Rattle.wasm_externals.specs.declared.memory_type.MemoryType.{MemoryType}
use Rattle.wasm_externals.specs.declared.tag_type.TagType.{TagType}
use Rattle.wasm_grammars.specs.Grammar.{Grammar, done, bind}
use Rattle.wasm_grammars.specs.Parts.{u32}
use Rattle.wasm_sections.specs.Items.{Counted}
use Rattle.wasm_segments.specs.Segments.{data_segment}
use Rattle.wasm_segments.specs.declared.data.Data.{Data}
use Rattle.wasm_segments.specs.declared.data.DataKind.{DataKind}
use Rattle.wasm_segments.specs.declared.data.DataKind.TheVariants as data_kind
use Rattle.wasm_segments.specs.declared.element.Element.{Element}
use Rattle.wasm_segments.specs.declared.element.ElementItems.{ElementItems}
use Rattle.wasm_segments.specs.declared.element.ElementItems.TheVariants as items
use Rattle.wasm_segments.specs.declared.element.ElementKind.{ElementKind}
use Rattle.wasm_segments.specs.declared.element.ElementKind.TheVariants as element
use Rattle.wasm_segments.specs.declared.global.Global.{Global}
use Rattle.wasm_segments.specs.declared.table.Table.{Table}
use Rattle.wasm_segments.specs.declared.table.TableInit.{TableInit}
use Rattle.wasm_segments.specs.declared.table.TableInit.TheVariants as init
use Rattle.wasm_subtypes.specs.Composites.{AreValid}
use Rattle.wasm_subtypes.specs.Errors.{Blames}
use Rattle.wasm_subtypes.specs.Types.{IsFirstEqual, AllExtend, Added, placed, order_of}
use Rattle.wasm_subtypes.specs.declared.error.TypeError.{TypeError}
use Rattle.wasm_types.specs.Types.{types_of}
use Rattle.wasm_types.specs.declared.recursive.RecGroup.{RecGroup}
use Rattle.wasm_constants.specs.Constants.{const_expr}
use Rattle.wasm_typing.specs.Types.{value_type}
use Rattle.wasm_typing.specs.Matching.{matches}
use Rattle.wasm_check_control.specs.Environment as checked
use Rattle.wasm_context.specs.Environment.{environment_of}
use Rattle.wasm_context.specs.declared.error.ContextError.{ContextError}
use Rattle.wasm_context.specs.declared.error.ContextError.TheVariants as context_error
use Rattle.wasm_context.specs.Components.{Components, with_types, with_function, with_table, with_memory, with_global, with_tag, with_element, with_declared}
use Rattle.wasm_context.specs.Faults.{BlamesTypes, function_fault, table_fault, memory_fault, global_fault, tag_fault, element_fault, data_fault, group_fault, external_fault, export_fault, import_fault, with_import, with_export}
use Rattle.wasm_module_context.specs.declared.error.PayloadError.{PayloadError}
use Rattle.wasm_module_context.specs.declared.error.PayloadError.TheVariants as error
use Rattle.wasm_module_context.specs.declared.function_index.FunctionIndex.{FunctionIndex}
use Rattle.wasm_module_context.specs.Constants.{IsConstant, ExplainsConstant, AddsConstant, FailsConstant}
use Rattle.wasm_module_context.specs.Items.{AddsItems, FailsItems}

-- Nothing is wrong, and the components become these.
abbrev pub Becomes : Option ContextError → Components → Components → Type 0
Becomes fault more d = (fault ≡ None) × (d ≡ more)

-- Something is wrong at an offset, or allocation fails.
abbrev pub FailsAt : Option ContextError → ℕ → PayloadError → Type 0
FailsAt fault at (error.Context e offset) = (offset ≡ at) × ((e ≡ context_error.OutOfMemory) ⊎ (fault ≡ Some e))
FailsAt fault at _ = ⊥

abbrev pub AddsGroup : RecGroup → Components → Components → Type 0
AddsGroup group c d = (group_fault (types_of group) ≡ None) × (d ≡ with_types c d.types) × Added c.types (types_of group) d.types × AreValid d.types (length c.types)

-- The cause of an error of a group of types.
abbrev pub BlamesGroup : RecGroup → Components → TypeError → Type 0
BlamesGroup group c t = (start : ℕ) → IsFirstEqual c.types (types_of group) start →
    Blames t (AllExtend c.types (length c.types) start (types_of group)) (AreValid (c.types ++ placed (length c.types) start (types_of group)) (length c.types))

abbrev pub FailsGroup : RecGroup → Components → ℕ → PayloadError → Type 0
FailsGroup group c at (error.Context e offset) = (offset ≡ at) × BlamesTypes e (group_fault (types_of group)) (BlamesGroup group c)
FailsGroup group c at _ = ⊥

-- The index of a function that is declared.
abbrev pub function_index : Grammar FunctionIndex
function_index = bind u32 (λ x. done (record { 0 = x }))

-- An import, a function with its type, a memory, a tag, an export.
abbrev pub AddsImport : Import → Components → Components → Type 0
AddsImport i c d = Becomes (import_fault c i.ty) (with_import c i.ty) d

abbrev pub AddsFunction : ℕ → Components → Components → Type 0
AddsFunction x c d = Becomes (function_fault c x) (with_function c x) d

abbrev pub AddsMemory : MemoryType → Components → Components → Type 0
AddsMemory t c d = Becomes (memory_fault c t) (with_memory c t) d

abbrev pub AddsTag : TagType → Components → Components → Type 0
AddsTag t c d = Becomes (tag_fault c t) (with_tag c t) d

abbrev pub AddsExport : Export → Components → Components → Type 0
AddsExport e c d = Becomes (export_fault c e.kind e.index e.name) (with_export c e.kind e.index e.name) d

abbrev pub AddsFunctionIndex : FunctionIndex → Components → Components → Type 0
AddsFunctionIndex x c d = Becomes (external_fault c kind.Func x.0) (with_declared c x.0) d

-- The initial value of a table has its element type. Without one, elements are null.
abbrev pub AddsInit : TableInit Reader → Reference → Components → Components → Type 0
AddsInit init.RefNull t c d = (t.nullable ≡ true) × (d ≡ c)
AddsInit (init.Expr r) t c d = AddsConstant (value.Ref t) r c d

abbrev pub FailsInit : TableInit Reader → Reference → Components → ℕ → PayloadError → Type 0
FailsInit init.RefNull t c at e = (t.nullable ≡ false) × (e ≡ error.NoInitialValue at)
FailsInit (init.Expr r) t c at e = FailsConstant (value.Ref t) r c e

abbrev pub AddsTable : Table Reader → Components → Components → Type 0
AddsTable t c d = (table_fault c t.ty ≡ None) × AddsInit t.init t.ty.element_type (with_table c t.ty) d

abbrev pub FailsTable : Table Reader → Components → ℕ → PayloadError → Type 0
FailsTable t c at e = FailsAt (table_fault c t.ty) at e ⊎ ((table_fault c t.ty ≡ None) × FailsInit t.init t.ty.element_type (with_table c t.ty) at e)

-- The initial value of a global has its type in the context of the globals before it.
abbrev pub AddsGlobal : Global Reader → Components → Components → Type 0
AddsGlobal g c d = (global_fault c g.ty ≡ None) ×
    ((m : Components) × AddsConstant g.ty.content_type g.init_expr c m × Becomes (global_fault m g.ty) (with_global m g.ty) d)

abbrev pub FailsGlobal : Global Reader → Components → ℕ → PayloadError → Type 0
FailsGlobal g c at e = FailsAt (global_fault c g.ty) at e ⊎ ((global_fault c g.ty ≡ None) × (FailsConstant g.ty.content_type g.init_expr c e ⊎
    ((m : Components) × AddsConstant g.ty.content_type g.init_expr c m × FailsAt (global_fault m g.ty) at e)))

-- The type of the elements. Function indices are references that are not null.
abbrev pub type_of_items : ElementItems Reader → Reference
type_of_items (items.Functions s) = record { nullable = false; heap_type = heap.Abstract false abstract.Func }
type_of_items (items.Expressions t s) = t

-- The table of an active segment: table 0 if no index is written.
abbrev pub index_of : Option ℕ → ℕ
index_of None = 0
index_of (Some x) = x

-- The type of addresses in a memory, or of indices in a table.
abbrev pub address_type : Bool → ValType
address_type is_64 = if is_64 then value.I64 else value.I32

-- Elements of this type may be elements of a table.
abbrev pub fits : Components → Reference → checked.Table → Bool
fits c t table = matches (order_of c.types) (value_type (value.Ref t)) (value_type (value.Ref table.element))

abbrev pub table_at : Components → ℕ → Option checked.Table
table_at c x = (environment_of c).tables x

-- The segment's elements may be elements of the table, and the offset is a constant expression of the
-- type of indices.
abbrev pub AddsInTable : Option checked.Table → Reader → Reference → Components → Components → Type 0
AddsInTable None r t c d = ⊥
AddsInTable (Some table) r t c d = (fits c t table ≡ true) × AddsConstant (address_type table.is_64) r c d

-- There is no table with the index `x`, or its elements have another type, or the offset is in error.
abbrev pub FailsInTable : Option checked.Table → ℕ → Reader → Reference → Components → ℕ → PayloadError → Type 0
FailsInTable None x r t c at e = e ≡ error.Context (context_error.Unknown kind.Table x) at
FailsInTable (Some table) x r t c at e = ((fits c t table ≡ false) × (e ≡ error.ElementType at t table.element)) ⊎ ((fits c t table ≡ true) × FailsConstant (address_type table.is_64) r c e)

-- The table and the offset of an active segment.
abbrev pub AddsOffset : ElementKind Reader → Reference → Components → Components → Type 0
AddsOffset (element.Active x r) t c d = AddsInTable (table_at c (index_of x)) r t c d
AddsOffset _ t c d = d ≡ c

abbrev pub FailsOffset : ElementKind Reader → Reference → Components → ℕ → PayloadError → Type 0
FailsOffset (element.Active x r) t c at e = FailsInTable (table_at c (index_of x)) (index_of x) r t c at e
FailsOffset _ t c at e = ⊥

-- The references of the elements. Expressions have the type of the segment.
abbrev pub DeclaresElements : ElementItems Reader → Components → Components → Type 0
DeclaresElements (items.Functions s) c d = AddsItems AddsFunctionIndex (λ features. function_index) s.count s.reader c d
DeclaresElements (items.Expressions t s) c d = AddsItems (AddsConstant (value.Ref t)) const_expr s.count s.reader c d

abbrev pub FailsElements : ElementItems Reader → Components → PayloadError → Type 0
FailsElements (items.Functions s) c e = FailsItems AddsFunctionIndex (λ x c at e. FailsAt (external_fault c kind.Func x.0) at e) (λ features. function_index) s.count s.reader c e
FailsElements (items.Expressions t s) c e = FailsItems (AddsConstant (value.Ref t)) (λ r c at e. FailsConstant (value.Ref t) r c e) const_expr s.count s.reader c e

-- An element segment: its type, then the offset, then the elements.
abbrev pub AddsElement : Element Reader → Components → Components → Type 0
AddsElement s c d = (element_fault c (type_of_items s.items) ≡ None) ×
    ((m : Components) × AddsOffset s.kind (type_of_items s.items) (with_element c (type_of_items s.items)) m × DeclaresElements s.items m d)

abbrev pub FailsElement : Element Reader → Components → ℕ → PayloadError → Type 0
FailsElement s c at e = FailsAt (element_fault c (type_of_items s.items)) at e ⊎ ((element_fault c (type_of_items s.items) ≡ None) ×
    (FailsOffset s.kind (type_of_items s.items) (with_element c (type_of_items s.items)) at e ⊎
    ((m : Components) × AddsOffset s.kind (type_of_items s.items) (with_element c (type_of_items s.items)) m × FailsElements s.items m e)))

-- The memory exists, and the offset is a constant expression of the type of its addresses. It declares
-- no functions: no such expression refers to one.
abbrev pub AddsInMemory : Option Bool → Reader → Components → Components → Type 0
AddsInMemory None r c d = ⊥
AddsInMemory (Some is_64) r c d = IsConstant c (address_type is_64) r × (d ≡ c)

-- There is no memory with the index `x`, or the offset is in error.
abbrev pub FailsInMemory : Option Bool → ℕ → Reader → Components → ℕ → PayloadError → Type 0
FailsInMemory None x r c at e = e ≡ error.Context (context_error.Unknown kind.Memory x) at
FailsInMemory (Some is_64) x r c at e = ExplainsConstant c (address_type is_64) r e

-- The memory and the offset of an active segment.
abbrev pub AddsPlace : DataKind Reader → Components → Components → Type 0
AddsPlace data_kind.Passive c d = d ≡ c
AddsPlace (data_kind.Active x r) c d = AddsInMemory ((environment_of c).memories x) r c d

abbrev pub FailsPlace : DataKind Reader → Components → ℕ → PayloadError → Type 0
FailsPlace data_kind.Passive c at e = ⊥
FailsPlace (data_kind.Active x r) c at e = FailsInMemory ((environment_of c).memories x) x r c at e

abbrev pub AddsData : Data Reader → Components → Components → Type 0
AddsData s c d = AddsPlace s.kind c d

abbrev pub FailsData : Data Reader → Components → ℕ → PayloadError → Type 0
FailsData s c at e = FailsPlace s.kind c at e

-- Data segments, of which there may not be too many: without a data count section, no limit was checked
-- before.
abbrev pub AddsDataSection : Counted → Components → Components → Type 0
AddsDataSection s c d = (data_fault s.count ≡ None) × AddsItems AddsData (λ features. data_segment (const_expr features)) s.count s.reader c d

-- There are too many at the start of the section; or one of them cannot be added.
abbrev pub FailsDataSection : Counted → Components → PayloadError → Type 0
FailsDataSection s c e = FailsAt (data_fault s.count) s.reader.start e ⊎ ((data_fault s.count ≡ None) ×
    FailsItems AddsData FailsData (λ features. data_segment (const_expr features)) s.count s.reader c e)
