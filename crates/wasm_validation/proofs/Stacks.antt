-- The operands of a list of types determine the types.
use Rattle.std.proofs.Common.{◌≡◌, List, [], ◌∷◌, map, reverse, refl, sym, ap, ◌∙◌}
use Rattle.std.proofs.lemmas.List.{reverse-reverse}
use Rattle.wasm_below.specs.declared.types.ValType.{ValType}
use Rattle.wasm_below.specs.declared.types.ValType.TheVariants as value
use Rattle.wasm_typing.specs.declared.value_type.Heap.TheVariants as heap
use Rattle.wasm_typing.specs.declared.value_type.ValueType.{ValueType}
use Rattle.wasm_typing.specs.declared.value_type.ValueType.TheVariants as operand
use Rattle.wasm_typing.specs.Types.{value_type}
use Rattle.wasm_check_control.specs.Environment.{stack_of}

type_back : ValueType → ValType
type_back operand.I32 = value.I32
type_back operand.I64 = value.I64
type_back operand.F32 = value.F32
type_back operand.F64 = value.F64
type_back operand.V128 = value.V128
type_back (operand.Ref nullable (heap.Known h)) = value.Ref (record { nullable = nullable; heap_type = h })
type_back v = value.I32

type_again : (t : ValType) → type_back (value_type t) ≡ t
unfolding type_back
type_again value.I32 = refl
type_again value.I64 = refl
type_again value.F32 = refl
type_again value.F64 = refl
type_again value.V128 = refl
type_again (value.Ref r) = refl

types_again : (ts : List ValType) → map type_back (map value_type ts) ≡ ts
types_again [] = refl
types_again (t ∷ ts) = ap (λ v. v ∷ map type_back (map value_type ts)) (type_again t) ∙ ap (λ vs. t ∷ vs) (types_again ts)

pub same_types : (as_ bs : List ValType) → stack_of as_ ≡ stack_of bs → as_ ≡ bs
same_types as_ bs same =
    let forward : map value_type as_ ≡ map value_type bs = sym (reverse-reverse (map value_type as_)) ∙ ap reverse same ∙ reverse-reverse (map value_type bs) in
    sym (types_again as_) ∙ ap (map type_back) forward ∙ types_again bs
