-- Parts of types for which there are no rules. They belong to the proposals shared-everything threads,
-- custom descriptors and stack switching.
use Rattle.std.specs.Prelude.{Bool, true, false, List, [], ◌∷◌, if◌then◌else◌, Option, Some, None}
use Rattle.wasm_below.specs.declared.types.AbstractHeapType.{AbstractHeapType}
use Rattle.wasm_below.specs.declared.types.AbstractHeapType.TheVariants as abstract
use Rattle.wasm_below.specs.declared.types.HeapType.{HeapType}
use Rattle.wasm_below.specs.declared.types.HeapType.TheVariants as heap_type
use Rattle.wasm_below.specs.declared.types.ValType.{ValType}
use Rattle.wasm_below.specs.declared.types.ValType.TheVariants as value
use Rattle.wasm_types.specs.declared.composites.CompositeInnerType.{CompositeInnerType}
use Rattle.wasm_types.specs.declared.composites.CompositeInnerType.TheVariants as inner
use Rattle.wasm_types.specs.declared.composites.CompositeType.{CompositeType}
use Rattle.wasm_types.specs.declared.fields.FieldType.{FieldType}
use Rattle.wasm_types.specs.declared.fields.StorageType.{StorageType}
use Rattle.wasm_types.specs.declared.fields.StorageType.TheVariants as storage
use Rattle.wasm_types.specs.declared.recursive.SubType.{SubType}
use Rattle.wasm_context.specs.declared.unsupported.Unsupported.{Unsupported}
use Rattle.wasm_context.specs.declared.unsupported.Unsupported.TheVariants as unsupported

abbrev pub or_next : Option Unsupported → Option Unsupported → Option Unsupported
or_next (Some what) other = Some what
or_next None other = other

-- The first part of a list's elements.
abbrev pub first_unsupported : {A : Type 0} → (A → Option Unsupported) → List A → Option Unsupported
first_unsupported f [] = None
first_unsupported f (a ∷ as_) = or_next (f a) (first_unsupported f as_)

abbrev pub unsupported_abstract : AbstractHeapType → Option Unsupported
unsupported_abstract abstract.Cont = Some unsupported.ContinuationReference
unsupported_abstract abstract.NoCont = Some unsupported.ContinuationReference
unsupported_abstract _ = None

abbrev pub unsupported_heap : HeapType → Option Unsupported
unsupported_heap (heap_type.Abstract shared t) = if shared then Some unsupported.SharedReference else unsupported_abstract t
unsupported_heap (heap_type.Concrete x) = None
unsupported_heap (heap_type.Exact x) = Some unsupported.ExactReference

abbrev pub unsupported_value : ValType → Option Unsupported
unsupported_value (value.Ref r) = unsupported_heap r.heap_type
unsupported_value _ = None

abbrev pub unsupported_storage : StorageType → Option Unsupported
unsupported_storage (storage.Val v) = unsupported_value v
unsupported_storage _ = None

abbrev pub unsupported_field : FieldType → Option Unsupported
unsupported_field f = unsupported_storage f.element_type

abbrev pub unsupported_inner : CompositeInnerType → Option Unsupported
unsupported_inner (inner.Func f) = or_next (first_unsupported unsupported_value f.params) (first_unsupported unsupported_value f.results)
unsupported_inner (inner.Array a) = unsupported_field a.0
unsupported_inner (inner.Struct s) = first_unsupported unsupported_field s.fields
unsupported_inner (inner.Cont c) = Some unsupported.ContinuationType

abbrev pub unsupported_composite : CompositeType → Option Unsupported
unsupported_composite t = if t.shared then Some unsupported.SharedType else unsupported_inner t.inner

abbrev pub unsupported_type : SubType → Option Unsupported
unsupported_type t = unsupported_composite t.composite_type
