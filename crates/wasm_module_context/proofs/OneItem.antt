-- Each item of a section adds one thing, or is in error.
use Rattle.std.proofs.Common.{Bool, Option, Some, None, ◌≡◌, ℕ, ◌<◌, ◌⊎◌, inl, inr, List, ◌++◌, length, sym, subst, ap, ◌∙◌, arith}
use Rattle.std.proofs.lemmas.Bool.{cases_order}
use Rattle.wasm_below.specs.declared.types.ValType.TheVariants as value
use Rattle.wasm_below.specs.Reference.{Reference}
use Rattle.wasm_below.specs.Source.{Reader}
use Rattle.wasm_externals.specs.declared.external.ExternalKind.TheVariants as kind
use Rattle.wasm_sections.specs.Items.{Counted}
use Rattle.wasm_segments.specs.Segments.{data_segment}
use Rattle.wasm_segments.specs.declared.data.DataKind.{DataKind}
use Rattle.wasm_segments.specs.declared.data.DataKind.TheVariants as data_kind
use Rattle.wasm_segments.specs.declared.element.ElementItems.{ElementItems}
use Rattle.wasm_segments.specs.declared.element.ElementItems.TheVariants as items
use Rattle.wasm_segments.specs.declared.element.ElementKind.{ElementKind}
use Rattle.wasm_segments.specs.declared.element.ElementKind.TheVariants as element
use Rattle.wasm_segments.specs.declared.table.TableInit.{TableInit}
use Rattle.wasm_segments.specs.declared.table.TableInit.TheVariants as init
use Rattle.wasm_subtypes.specs.Composites.{AreValid}
use Rattle.wasm_subtypes.specs.Types.{IsFirstEqual, placed}
use Rattle.wasm_subtypes.specs.declared.defined.Defined.{Defined}
use Rattle.wasm_subtypes.specs.declared.error.TypeError.TheVariants as type_error
use Rattle.wasm_types.specs.Types.{types_of}
use Rattle.wasm_types.specs.declared.recursive.SubType.{SubType}
use Rattle.wasm_constants.specs.Constants.{const_expr}
use Rattle.wasm_check_control.specs.Environment as checked
use Rattle.wasm_context.specs.Environment.{environment_of}
use Rattle.wasm_context.specs.declared.error.ContextError.TheVariants as context_error
use Rattle.wasm_context.specs.Components.{Components, with_types, with_table, with_global, with_element}
use Rattle.wasm_context.specs.Faults.{table_fault, global_fault, element_fault, data_fault, external_fault}
use Rattle.wasm_module_context.specs.declared.error.PayloadError.{PayloadError}
use Rattle.wasm_module_context.specs.declared.error.PayloadError.TheVariants as error
use Rattle.wasm_module_context.specs.Constants.{AddsConstant, FailsConstant}
use Rattle.wasm_module_context.specs.Exhaustion.{IsExhausted}
use Rattle.wasm_module_context.specs.Parts.{Becomes, FailsAt, AddsGroup, FailsGroup, function_index, AddsFunctionIndex, AddsInit, FailsInit, AddsTable, FailsTable, AddsGlobal, FailsGlobal, type_of_items, address_type, index_of, table_at, AddsInTable, FailsInTable, AddsOffset, FailsOffset, DeclaresElements, FailsElements, AddsElement, FailsElement, AddsInMemory, FailsInMemory, AddsPlace, FailsPlace, AddsData, FailsData, AddsDataSection, FailsDataSection}
use Rattle.wasm_module_context.proofs.OneContext.{AddsOnce, AddsOrFails, items_once, items_or_error, becomes_once, fine_or_fails}
use Rattle.wasm_module_context.proofs.OneConstant.{one_constant, typed_or_explained, constant_or_fails}

one_start : (types : List Defined) (group : List SubType) (s t : ℕ) → IsFirstEqual types group s → IsFirstEqual types group t → s ≡ t
one_start types group s t a b = go (cases_order s t)
  where
    go : (s ≡ t) ⊎ ((s < t) ⊎ (t < s)) → s ≡ t
    go (inl e) = e
    go (inr (inl p)) = absurd (b.before s p (a.found (let w = b.within in omega (arith, p, w))))
    go (inr (inr p)) = absurd (a.before t p (b.found (let w = a.within in omega (arith, p, w))))

pub one_group : AddsOnce AddsGroup
one_group g c d e (_, is, added, _) (_, is2, added2, _) =
    let start = one_start c.types (types_of g) added.start added2.start added.is_first added2.is_first in
    let types : d.types ≡ e.types = added.all ∙ ap (λ n. c.types ++ placed (length c.types) n (types_of g)) start ∙ sym added2.all in
    is ∙ ap (with_types c) types ∙ sym is2

pub group_or_fails : AddsOrFails AddsGroup FailsGroup
group_or_fails g c d at (error.Context context_error.OutOfMemory offset) known adds f = known tt
group_or_fails g c d at (error.Context (context_error.Type type_error.OutOfMemory) offset) known adds f = known tt
group_or_fails g c d at (error.Context (context_error.Type type_error.TooManyTypes) offset) known adds f = known tt
group_or_fails g c d at (error.Context (context_error.Type type_error.Supertype) offset) known (_, _, added, _) (_, (_, f)) = f added.start added.is_first added.fits
group_or_fails g c d at (error.Context (context_error.Type type_error.Invalid) offset) known (_, _, added, valid) (_, (_, f)) =
    f added.start added.is_first (subst (λ l. AreValid l (length c.types)) added.all valid)
group_or_fails g c d at (error.Context (context_error.Unsupported what) offset) known (fine, _, _, _) (_, f) = cc (fine, f)
group_or_fails g c d at (error.Context e offset) known adds (_, f) = absurd f
group_or_fails g c d at e known adds f = absurd f

one_init : (i : TableInit Reader) (t : Reference) (c d e : Components) → AddsInit i t c d → AddsInit i t c e → d ≡ e
one_init init.RefNull t c d e (_, a) (_, b) = a ∙ sym b
one_init (init.Expr r) t c d e a b = one_constant (value.Ref t) r c d e a b

init_or_fails : (i : TableInit Reader) (t : Reference) (c d : Components) (at : ℕ) (e : PayloadError) → (IsExhausted e → ⊥) → AddsInit i t c d → FailsInit i t c at e → ⊥
init_or_fails init.RefNull t c d at e known (yes_, _) (no_, _) = cc (yes_, no_)
init_or_fails (init.Expr r) t c d at e known a f = constant_or_fails (value.Ref t) r c d e known a f

pub one_table : AddsOnce AddsTable
one_table t c d e (_, a) (_, b) = one_init t.init t.ty.element_type (with_table c t.ty) d e a b

pub table_or_fails : AddsOrFails AddsTable FailsTable
table_or_fails t c d at e known (none, _) (inl f) = fine_or_fails (table_fault c t.ty) at e known none f
table_or_fails t c d at e known (_, a) (inr (_, f)) = init_or_fails t.init t.ty.element_type (with_table c t.ty) d at e known a f

pub one_global : AddsOnce AddsGlobal
one_global g c d e (_, (m, a, b)) (_, (k, a2, b2)) =
    let same = one_constant g.ty.content_type g.init_expr c m k a a2 in
    becomes_once b (subst (λ z. Becomes (global_fault z g.ty) (with_global z g.ty) e) (sym same) b2)

pub global_or_fails : AddsOrFails AddsGlobal FailsGlobal
global_or_fails g c d at e known (none, _) (inl f) = fine_or_fails (global_fault c g.ty) at e known none f
global_or_fails g c d at e known (_, (m, a, _)) (inr (_, inl f)) = constant_or_fails g.ty.content_type g.init_expr c m e known a f
global_or_fails g c d at e known (_, (m, a, b)) (inr (_, inr (k, a2, f))) =
    let same = one_constant g.ty.content_type g.init_expr c m k a a2 in
    fine_or_fails (global_fault m g.ty) at e known b.0 (subst (λ z. FailsAt (global_fault z g.ty) at e) (sym same) f)

one_in_table : (o : Option checked.Table) (r : Reader) (t : Reference) (c d e : Components) → AddsInTable o r t c d → AddsInTable o r t c e → d ≡ e
one_in_table None r t c d e a b = absurd a
one_in_table (Some table) r t c d e (_, a) (_, b) = one_constant (address_type table.is_64) r c d e a b

in_table_or_fails : (o : Option checked.Table) (x : ℕ) (r : Reader) (t : Reference) (c d : Components) (at : ℕ) (e : PayloadError) → (IsExhausted e → ⊥) →
    AddsInTable o r t c d → FailsInTable o x r t c at e → ⊥
in_table_or_fails None x r t c d at e known a f = absurd a
in_table_or_fails (Some table) x r t c d at e known (yes_, _) (inl (no_, _)) = cc (yes_, no_)
in_table_or_fails (Some table) x r t c d at e known (_, a) (inr (_, f)) = constant_or_fails (address_type table.is_64) r c d e known a f

one_offset : (k : ElementKind Reader) (t : Reference) (c d e : Components) → AddsOffset k t c d → AddsOffset k t c e → d ≡ e
one_offset (element.Active x r) t c d e a b = one_in_table (table_at c (index_of x)) r t c d e a b
one_offset k t c d e a b = a ∙ sym b

offset_or_fails : (k : ElementKind Reader) (t : Reference) (c d : Components) (at : ℕ) (e : PayloadError) → (IsExhausted e → ⊥) → AddsOffset k t c d → FailsOffset k t c at e → ⊥
offset_or_fails (element.Active x r) t c d at e known a f = in_table_or_fails (table_at c (index_of x)) (index_of x) r t c d at e known a f
offset_or_fails k t c d at e known a f = absurd f

index_once : AddsOnce AddsFunctionIndex
index_once x c d e a b = becomes_once a b

index_or_fails : AddsOrFails AddsFunctionIndex (λ x c at e. FailsAt (external_fault c kind.Func x.0) at e)
index_or_fails x c d at e known (none, _) f = fine_or_fails (external_fault c kind.Func x.0) at e known none f

one_elements : (s : ElementItems Reader) (c d e : Components) → DeclaresElements s c d → DeclaresElements s c e → d ≡ e
one_elements (items.Functions s) c d e a b = items_once AddsFunctionIndex (λ features. function_index) index_once s.count s.reader c d e a b
one_elements (items.Expressions t s) c d e a b = items_once (AddsConstant (value.Ref t)) const_expr (one_constant (value.Ref t)) s.count s.reader c d e a b

elements_or_fail : (s : ElementItems Reader) (c d : Components) (e : PayloadError) → (IsExhausted e → ⊥) → DeclaresElements s c d → FailsElements s c e → ⊥
elements_or_fail (items.Functions s) c d e known a f =
    items_or_error AddsFunctionIndex (λ features. function_index) index_once (λ x c at e. FailsAt (external_fault c kind.Func x.0) at e) index_or_fails s.count s.reader c d e known a f
elements_or_fail (items.Expressions t s) c d e known a f =
    items_or_error (AddsConstant (value.Ref t)) const_expr (one_constant (value.Ref t)) (λ r c at e. FailsConstant (value.Ref t) r c e)
    (λ r c d at e. constant_or_fails (value.Ref t) r c d e) s.count s.reader c d e known a f

pub one_element : AddsOnce AddsElement
one_element s c d e (_, (m, a, b)) (_, (k, a2, b2)) =
    let same = one_offset s.kind (type_of_items s.items) (with_element c (type_of_items s.items)) m k a a2 in
    one_elements s.items m d e b (subst (λ z. DeclaresElements s.items z e) (sym same) b2)

pub element_or_fails : AddsOrFails AddsElement FailsElement
element_or_fails s c d at e known (none, _) (inl f) = fine_or_fails (element_fault c (type_of_items s.items)) at e known none f
element_or_fails s c d at e known (_, (m, a, _)) (inr (_, inl f)) = offset_or_fails s.kind (type_of_items s.items) (with_element c (type_of_items s.items)) m at e known a f
element_or_fails s c d at e known (_, (m, a, b)) (inr (_, inr (k, a2, f))) =
    let same = one_offset s.kind (type_of_items s.items) (with_element c (type_of_items s.items)) m k a a2 in
    elements_or_fail s.items m d e known b (subst (λ z. FailsElements s.items z e) (sym same) f)

one_in_memory : (o : Option Bool) (r : Reader) (c d e : Components) → AddsInMemory o r c d → AddsInMemory o r c e → d ≡ e
one_in_memory None r c d e a b = absurd a
one_in_memory (Some is_64) r c d e (_, a) (_, b) = a ∙ sym b

in_memory_or_fails : (o : Option Bool) (x : ℕ) (r : Reader) (c d : Components) (at : ℕ) (e : PayloadError) → (IsExhausted e → ⊥) → AddsInMemory o r c d → FailsInMemory o x r c at e → ⊥
in_memory_or_fails None x r c d at e known a f = absurd a
in_memory_or_fails (Some is_64) x r c d at e known (typed, _) f = typed_or_explained c (address_type is_64) r e known typed f

one_place : (k : DataKind Reader) (c d e : Components) → AddsPlace k c d → AddsPlace k c e → d ≡ e
one_place data_kind.Passive c d e a b = a ∙ sym b
one_place (data_kind.Active x r) c d e a b = one_in_memory ((environment_of c).memories x) r c d e a b

place_or_fails : (k : DataKind Reader) (c d : Components) (at : ℕ) (e : PayloadError) → (IsExhausted e → ⊥) → AddsPlace k c d → FailsPlace k c at e → ⊥
place_or_fails data_kind.Passive c d at e known a f = absurd f
place_or_fails (data_kind.Active x r) c d at e known a f = in_memory_or_fails ((environment_of c).memories x) x r c d at e known a f

one_data : AddsOnce AddsData
one_data s c d e a b = one_place s.kind c d e a b

data_or_fails : AddsOrFails AddsData FailsData
data_or_fails s c d at e known a f = place_or_fails s.kind c d at e known a f

pub one_data_section : (s : Counted) (c d e : Components) → AddsDataSection s c d → AddsDataSection s c e → d ≡ e
one_data_section s c d e (_, a) (_, b) = items_once AddsData (λ features. data_segment (const_expr features)) one_data s.count s.reader c d e a b

pub data_section_or_fails : (s : Counted) (c d : Components) (e : PayloadError) → (IsExhausted e → ⊥) → AddsDataSection s c d → FailsDataSection s c e → ⊥
data_section_or_fails s c d e known (none, _) (inl f) = fine_or_fails (data_fault s.count) s.reader.start e known none f
data_section_or_fails s c d e known (_, a) (inr (_, f)) =
    items_or_error AddsData (λ features. data_segment (const_expr features)) one_data FailsData data_or_fails s.count s.reader c d e known a f
