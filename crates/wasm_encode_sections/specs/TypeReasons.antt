-- Why types have no encoding: the limits of Types.antt of wasm_types.
use Rattle.std.specs.Prelude.{◌≡◌, ℕ, ◌<◌, ◌⊎◌, Option, Some, None}
use Rattle.wasm_below.specs.declared.malformed.Malformed.TheVariants as malformed
use Rattle.wasm_below.specs.declared.message.Message.{Message}
use Rattle.wasm_below.specs.declared.message.Message.TheVariants as message
use Rattle.wasm_below.specs.declared.message.SizeName.TheVariants as size_name
use Rattle.wasm_below.specs.Reference.{max_type_index}
use Rattle.wasm_types.specs.declared.composites.CompositeInnerType.{CompositeInnerType}
use Rattle.wasm_types.specs.declared.composites.CompositeInnerType.TheVariants as inner
use Rattle.wasm_types.specs.declared.composites.CompositeType.{CompositeType}
use Rattle.wasm_types.specs.declared.fields.StructType.{StructType}
use Rattle.wasm_types.specs.declared.functions.ContType.{ContType}
use Rattle.wasm_types.specs.declared.functions.FuncType.{FuncType}
use Rattle.wasm_types.specs.declared.recursive.RecGroup.{RecGroup}
use Rattle.wasm_types.specs.declared.recursive.RecGroup.TheVariants as group
use Rattle.wasm_types.specs.declared.recursive.SubType.{SubType}
use Rattle.wasm_types.specs.Types.{max_params, max_results, max_struct_fields, max_types}
use Rattle.wasm_write_grammars.specs.Writing.{NoReason, ListReason}

-- The type index is above the limit.
abbrev pub IndexReason : ℕ → Message → Type 0
IndexReason index m = (m ≡ message.Malformed malformed.TypeIndex) × (max_type_index < index)

-- There are too many parameters or results.
abbrev pub FuncReason : FuncType → Message → Type 0
FuncReason ty m = ListReason max_params size_name.FunctionParams NoReason ty.params m ⊎ ListReason max_results size_name.FunctionReturns NoReason ty.results m

-- There are too many fields.
abbrev pub StructReason : StructType → Message → Type 0
StructReason ty m = ListReason max_struct_fields size_name.StructFields NoReason ty.fields m

abbrev pub ContReason : ContType → Message → Type 0
ContReason ty m = IndexReason ty.0 m

abbrev pub InnerReason : CompositeInnerType → Message → Type 0
InnerReason (inner.Func ty) m = FuncReason ty m
InnerReason (inner.Array ty) m = ⊥
InnerReason (inner.Struct ty) m = StructReason ty m
InnerReason (inner.Cont ty) m = ContReason ty m

abbrev pub CompositeReason : CompositeType → Message → Type 0
CompositeReason ty m = InnerReason ty.inner m

abbrev pub SuperReason : Option ℕ → Message → Type 0
SuperReason None m = ⊥
SuperReason (Some index) m = IndexReason index m

-- The supertype's index is above the limit, or the composite type has a reason.
abbrev pub SubReason : SubType → Message → Type 0
SubReason ty m = SuperReason ty.supertype_idx m ⊎ CompositeReason ty.composite_type m

abbrev pub GroupReason : RecGroup → Message → Type 0
GroupReason (group.Implicit ty) m = SubReason ty m
GroupReason (group.Explicit types) m = ListReason max_types size_name.RecGroupTypes SubReason types m
