use Rattle.std.specs.Prelude.{ℕ, ◌≤◌, Bool}
use Rattle.wasm_below.specs.declared.types.HeapType.{HeapType}
use Rattle.wasm_below.specs.declared.types.HeapType.TheVariants as heap

pub record Reference : Type 0 where
  pub nullable : Bool
  pub heap_type : HeapType

-- The greatest type index: a limit of this project, not of the specification.
abbrev pub max_type_index : ℕ
max_type_index = 1048575

-- A reference type can have this heap type: a type index is at most 1048575.
abbrev pub FitsRefType : HeapType → Type 0
FitsRefType (heap.Abstract shared ty) = Unit {0}
FitsRefType (heap.Concrete index) = index ≤ max_type_index
FitsRefType (heap.Exact index) = index ≤ max_type_index
