use Rattle.std.proofs.Common.{◌≡◌, ℕ, List, ◌∷◌, ◌++◌, Bool, true, false, refl}
use Rattle.std.specs.Prelude.{codes}
use Rattle.wasm_below.specs.declared.types.AbstractHeapType.TheVariants as ty
use Rattle.wasm_below.specs.declared.types.HeapType.{HeapType}
use Rattle.wasm_below.specs.declared.types.HeapType.TheVariants as heap
use Rattle.wasm_below.specs.declared.types.ValType.{ValType}
use Rattle.wasm_below.specs.declared.types.ValType.TheVariants as value
use Rattle.wasm_text.specs.Values.{heap_type_text, reference_words, reference_text, value_type_text}

-- The text starts with a space.
abbrev pub IsSpaced : List ℕ → Type 0
IsSpaced text = (more : List ℕ) × (text ≡ 32 ∷ more)

spaced_words : (nullable : Bool) (t : HeapType) → IsSpaced (reference_words nullable t)
spaced_words true t = (codes "(ref null" ++ (heap_type_text t ++ codes ")"), refl)
spaced_words false t = (codes "(ref" ++ (heap_type_text t ++ codes ")"), refl)

spaced_reference : (nullable : Bool) (t : HeapType) → IsSpaced (reference_text nullable t)
spaced_reference false t = spaced_words false t
spaced_reference true (heap.Abstract false ty.Func) = (codes "funcref", refl)
spaced_reference true (heap.Abstract false ty.Extern) = (codes "externref", refl)
spaced_reference true t = spaced_words true t

pub spaced_type : (t : ValType) → IsSpaced (value_type_text t)
spaced_type value.I32 = (codes "i32", refl)
spaced_type value.I64 = (codes "i64", refl)
spaced_type value.F32 = (codes "f32", refl)
spaced_type value.F64 = (codes "f64", refl)
spaced_type value.V128 = (codes "v128", refl)
spaced_type (value.Ref r) = spaced_reference r.nullable r.heap_type
