-- Specification: Binary Format, Types: Composite Types, Recursive Types. The bytes 0x65 (shared) and
-- 0x5d (cont): proposals.
use Rattle.std.specs.Prelude.{ℕ, ℤ, pos, negsuc, nat_abs, ◌==◌, ◌||◌, leb, Bool, true, false, List, [], ◌∷◌, Option, Some, None}
use Rattle.wasm_below.specs.declared.malformed.Malformed.TheVariants as malformed
use Rattle.wasm_below.specs.declared.message.LeadingByteName.TheVariants as leading_name
use Rattle.wasm_below.specs.declared.message.Message.TheVariants as message
use Rattle.wasm_below.specs.declared.message.SizeName.TheVariants as size_name
use Rattle.wasm_below.specs.declared.types.ValType.{ValType}
use Rattle.wasm_below.specs.declared.types.ValType.TheVariants as value
use Rattle.wasm_below.specs.Number.{EncodesSigned}
use Rattle.wasm_below.specs.Reference.{max_type_index}
use Rattle.wasm_below.specs.Source.{S33Fault}
use Rattle.wasm_below.proofs.DeterminedRefusals.{s33_determines}
use Rattle.wasm_below.proofs.PrefixCode.{signed_prefix_code}
use Rattle.wasm_grammars.specs.Grammar.{Grammar, part, done, fail, choose, peek, thing}
use Rattle.wasm_grammars.specs.Parts.{◌>>=◌, ◌>>◌, require, never, byte, u32, size, val_type, counted}
use Rattle.wasm_types.specs.declared.composites.CompositeInnerType.{CompositeInnerType}
use Rattle.wasm_types.specs.declared.composites.CompositeInnerType.TheVariants as inner
use Rattle.wasm_types.specs.declared.composites.CompositeType.{CompositeType}
use Rattle.wasm_types.specs.declared.fields.ArrayType.{ArrayType}
use Rattle.wasm_types.specs.declared.fields.FieldType.{FieldType}
use Rattle.wasm_types.specs.declared.fields.StorageType.{StorageType}
use Rattle.wasm_types.specs.declared.fields.StorageType.TheVariants as storage
use Rattle.wasm_types.specs.declared.fields.StructType.{StructType}
use Rattle.wasm_types.specs.declared.functions.ContType.{ContType}
use Rattle.wasm_types.specs.declared.functions.FuncType.{FuncType}
use Rattle.wasm_types.specs.declared.recursive.RecGroup.{RecGroup}
use Rattle.wasm_types.specs.declared.recursive.RecGroup.TheVariants as group
use Rattle.wasm_types.specs.declared.recursive.SubType.{SubType}

-- The greatest counts.
abbrev pub max_params : ℕ
max_params = 1000

abbrev pub max_results : ℕ
max_results = 1000

abbrev pub max_struct_fields : ℕ
max_struct_fields = 10000

abbrev pub max_supertypes : ℕ
max_supertypes = 1

abbrev pub max_types : ℕ
max_types = 1000000

abbrev pub s33 : Grammar ℤ
s33 = part (EncodesSigned 33) S33Fault never (record { code = λ a b x y m n p q e. signed_prefix_code a b 33 x y m n p q e; determines = s33_determines })

-- An `i8` or an `i16`. On the stack, its values have type i32.
abbrev pub is_packed : StorageType → Bool
is_packed (storage.Val ty) = false
is_packed _ = true

-- The type of the value on the stack.
abbrev pub unpacked : StorageType → ValType
unpacked (storage.Val ty) = ty
unpacked _ = value.I32

abbrev pub leads_packed : ℕ → Bool
leads_packed b = (b == 0x78) || (b == 0x77)

abbrev pub packed : Bool → StorageType
packed true = storage.I8
packed false = storage.I16

abbrev pub packed_type : Grammar StorageType
packed_type = do b ← byte; done (packed (b == 0x78))

abbrev pub value_type : Grammar StorageType
value_type = do ty ← val_type; done (storage.Val ty)

--   storagetype ::= t:valtype | pt:packtype    packtype ::= 0x77 ⇒ i16 | 0x78 ⇒ i8
abbrev pub storage_type : Grammar StorageType
storage_type = peek leads_packed packed_type value_type

abbrev pub is_mutable : ℕ → Grammar Bool
is_mutable b = do
  require (leb b 1) (message.Malformed malformed.FieldMutability)
  done (b == 1)

--   mut ::= 0x00 ⇒ ε | 0x01 ⇒ mut
-- The error of another byte is after it.
abbrev pub mutability : Grammar Bool
mutability = do
  b ← byte
  thing (is_mutable b)

--   fieldtype ::= zt:storagetype mut:mut
abbrev pub field_type : Grammar FieldType
field_type = do
  element_type ← thing storage_type
  mutable ← thing mutability
  done (record { element_type = element_type; mutable = mutable })

abbrev pub array_type : Grammar ArrayType
array_type = do field ← field_type; done (record { 0 = field })

abbrev pub struct_type : Grammar StructType
struct_type = do
  fields ← counted max_struct_fields size_name.StructFields (thing field_type)
  done (record { fields = fields })

--   t1*:list(valtype) t2*:list(valtype) ⇒ func t1* → t2*
abbrev pub func_type : Grammar FuncType
func_type = do
  params ← thing (counted max_params size_name.FunctionParams (thing val_type))
  results ← thing (counted max_results size_name.FunctionReturns (thing val_type))
  done (record { params = params; results = results })

abbrev pub is_natural : ℤ → Bool
is_natural (pos n) = true
is_natural (negsuc n) = false

abbrev pub within_limit : ℕ → Grammar ℕ
within_limit index = do
  require (leb index max_type_index) (message.Malformed malformed.TypeIndex)
  done index

abbrev pub cont_index : ℤ → Grammar ContType
cont_index index = do
  require (is_natural index) (message.Malformed malformed.ContinuationType)
  require (leb (nat_abs index) max_type_index) (message.Malformed malformed.TypeIndex)
  done (record { 0 = nat_abs index })

--   x:s33 ⇒ cont x, if x ≥ 0
-- The error of an index that is negative or too large is after it.
abbrev pub cont_type : Grammar ContType
cont_type = do
  index ← s33
  thing (cont_index index)

--   comptype ::= 0x5E ft:fieldtype ⇒ array ft | 0x5F ft*:list(fieldtype) ⇒ struct ft* | 0x60 t1*:resulttype t2*:resulttype ⇒ func t1* → t2*
--              | 0x5D x:s33 ⇒ cont x
abbrev pub inner_after : ℕ → Grammar CompositeInnerType
inner_after b =
    choose (b == 0x60) (do ty ← thing func_type; done (inner.Func ty))
    (choose (b == 0x5e) (do ty ← thing array_type; done (inner.Array ty))
    (choose (b == 0x5f) (do ty ← thing struct_type; done (inner.Struct ty))
    (choose (b == 0x5d) (do ty ← thing cont_type; done (inner.Cont ty))
    (fail (message.InvalidLeadingByte b leading_name.Type)))))

abbrev pub inner_type : Grammar CompositeInnerType
inner_type = do
  b ← byte
  inner_after b

abbrev pub shared_type : Grammar CompositeType
shared_type = do
  b ← byte
  inner ← thing inner_type
  done (record { inner = inner; shared = true })

abbrev pub unshared_type : Grammar CompositeType
unshared_type = do
  inner ← inner_type
  done (record { inner = inner; shared = false })

-- A composite type, after the byte 0x65 if it is shared.
abbrev pub composite_type : Grammar CompositeType
composite_type = peek (λ b. b == 0x65) shared_type unshared_type

abbrev pub super_index : Grammar (Option ℕ)
super_index = do
  index ← u32
  index ← thing (within_limit index)
  done (Some index)

-- At most one type index. The error of an index that is too large is after it.
abbrev pub supertype : Grammar (Option ℕ)
supertype = do
  n ← size max_supertypes size_name.SupertypeIndices
  choose (n == 0) (done None) super_index

abbrev pub is_sub : ℕ → Bool
is_sub b = (b == 0x4f) || (b == 0x50)

abbrev pub declared_type : Grammar SubType
declared_type = do
  b ← byte
  supertype_idx ← thing supertype
  composite_type ← thing composite_type
  done (record { is_final = b == 0x4f; supertype_idx = supertype_idx; composite_type = composite_type })

abbrev pub plain_type : Grammar SubType
plain_type = do
  ty ← composite_type
  done (record { is_final = true; supertype_idx = None; composite_type = ty })

--   subtype ::= 0x4F x*:list(typeidx) ct:comptype ⇒ sub final x* ct | 0x50 x*:list(typeidx) ct:comptype ⇒ sub x* ct | ct:comptype ⇒ sub final ε ct
abbrev pub sub_type : Grammar SubType
sub_type = peek is_sub declared_type plain_type

-- The group is written as a list of types.
abbrev pub is_explicit : RecGroup → Bool
is_explicit (group.Implicit ty) = false
is_explicit (group.Explicit types) = true

-- The types of the group.
abbrev pub types_of : RecGroup → List SubType
types_of (group.Implicit ty) = ty ∷ []
types_of (group.Explicit types) = types

abbrev pub explicit_group : Grammar RecGroup
explicit_group = do
  b ← byte
  types ← thing (counted max_types size_name.RecGroupTypes (thing sub_type))
  done (group.Explicit types)

abbrev pub implicit_group : Grammar RecGroup
implicit_group = do
  ty ← sub_type
  done (group.Implicit ty)

--   rectype ::= 0x4E st*:list(subtype) ⇒ rec st* | st:subtype ⇒ rec st
abbrev pub rec_group : Grammar RecGroup
rec_group = peek (λ b. b == 0x4e) explicit_group implicit_group
