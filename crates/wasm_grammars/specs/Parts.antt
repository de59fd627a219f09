-- Parts that wasm_below reads, and the statements of a grammar.
use Rattle.std.specs.Prelude.{ℕ, zero, suc, Bool, List, [], ◌∷◌, ◌++◌}
use Rattle.wasm_below.specs.declared.message.Message.{Message}
use Rattle.wasm_below.specs.declared.message.NumberName.TheVariants as number_name
use Rattle.wasm_below.specs.declared.message.SizeName.{SizeName}
use Rattle.wasm_below.specs.declared.types.HeapType.{HeapType}
use Rattle.wasm_below.specs.declared.types.ValType.{ValType}
use Rattle.wasm_below.specs.Number.{EncodesUnsigned, EncodesSize}
use Rattle.wasm_below.specs.Reference.{Reference}
use Rattle.wasm_below.specs.Source.{Reader, IsByte, EndFault, U32Fault, U64Fault, CountFault}
use Rattle.wasm_below.specs.TypeEncoding.{EncodesHeapType, HeapTypeFault, EncodesRefType, RefTypeFault, EncodesValType, ValTypeFault}
use Rattle.wasm_below.proofs.DeterminedRefusals.{number_determines, u32_determines, end_determines, count_determines}
use Rattle.wasm_below.proofs.DeterminedTypeRefusals.{heap_determines, ref_determines, value_determines}
use Rattle.wasm_below.proofs.PrefixCode.{byte_prefix_code, size_prefix_code}
use Rattle.wasm_below.proofs.Steps.{number_prefix_code}
use Rattle.wasm_below.proofs.TypePrefixCodes.{heap_prefix_code, ref_prefix_code, value_prefix_code}
use Rattle.wasm_grammars.specs.Grammar.{Grammar, part, done, bind, need, choose, allocate}
use Rattle.wasm_grammars.specs.BlockLaws.{BeforeFault, before_is_part}

infixl 10 ◌>>=◌
abbrev pub ◌>>=◌ : {X Y : Type 0} → Grammar X → (X → Grammar Y) → Grammar Y
g >>= h = bind g h

-- The part does not allocate.
abbrev pub never : Reader → Type 0
never r = ⊥

-- No value, the error at the byte before, such as a number's last byte.
abbrev pub fail_before : {X : Type 0} → Message → Grammar X
fail_before {X} m = part (λ text (x : X). ⊥) (BeforeFault m) never (before_is_part m)

-- A statement that reads nothing: a condition, with the error otherwise at the start of the thing; a
-- condition, with the error otherwise at the byte before; an allocation.
pub data Guard : Type 0 where
  require : Bool → Message → Guard
  require_last : Bool → Message → Guard
  allocation : Guard

infixl 10 ◌>>◌
abbrev pub ◌>>◌ : {X : Type 0} → Guard → Grammar X → Grammar X
(require b m) >> g = need b m g
(require_last b m) >> g = choose b g (fail_before m)
allocation >> g = allocate g

abbrev pub byte : Grammar ℕ
byte = part IsByte EndFault never (record { code = byte_prefix_code; determines = end_determines })

abbrev pub u32 : Grammar ℕ
u32 = part (EncodesUnsigned 32) U32Fault never (record { code = number_prefix_code 32; determines = u32_determines })

abbrev pub u64 : Grammar ℕ
u64 = part (EncodesUnsigned 64) U64Fault never (record { code = number_prefix_code 64; determines = number_determines 64 number_name.VarU64 })

-- A u32 for which the condition holds, or the error at the number's last byte.
abbrev pub u32_where : (ℕ → Bool) → Message → Grammar ℕ
u32_where p m = do
  n ← u32
  require_last (p n) m
  done n

-- A u32 of at most `limit`, or `SizeOutOfBounds` at its start.
abbrev pub size : ℕ → SizeName → Grammar ℕ
size limit name = part (EncodesSize limit) (CountFault name limit) never (record { code = size_prefix_code limit; determines = count_determines name limit })

abbrev pub heap_type : Grammar HeapType
heap_type = part EncodesHeapType HeapTypeFault never (record { code = heap_prefix_code; determines = heap_determines })

abbrev pub ref_type : Grammar Reference
ref_type = part EncodesRefType RefTypeFault never (record { code = ref_prefix_code; determines = ref_determines })

abbrev pub val_type : Grammar ValType
val_type = part EncodesValType ValTypeFault never (record { code = value_prefix_code; determines = value_determines })

-- `xs`, followed by `n` more values.
abbrev pub more : {X : Type 0} → ℕ → Grammar X → List X → Grammar (List X)
more zero g xs = done xs
more (suc n) g xs = bind g (λ x. more n g (xs ++ x ∷ []))

-- A count of at most `limit`, and that many values. Allocation may fail after the count.
abbrev pub counted : {X : Type 0} → ℕ → SizeName → Grammar X → Grammar (List X)
counted limit name g = do
  n ← size limit name
  allocation
  more n g []
