-- Types are equal if and only if they have the same numbers.
use Rattle.std.proofs.Common.{◌≡◌, ℕ, suc, ◌+◌, ◌*◌, Bool, true, false, List, [], ◌∷◌, ◌++◌, map, length, Option, Some, None, refl, sym, ap, ◌∙◌, append_assoc, arith}
use Rattle.std.specs.Prelude.{◌==◌, if◌then◌else◌}
use Rattle.wasm_below.specs.Reference.{Reference}
use Rattle.wasm_below.specs.TypeEncoding.{heap_type_byte}
use Rattle.wasm_below.specs.declared.types.AbstractHeapType.{AbstractHeapType}
use Rattle.wasm_below.specs.declared.types.AbstractHeapType.TheVariants as ty
use Rattle.wasm_below.specs.declared.types.HeapType.{HeapType}
use Rattle.wasm_below.specs.declared.types.HeapType.TheVariants as heap_type
use Rattle.wasm_below.specs.declared.types.ValType.{ValType}
use Rattle.wasm_below.specs.declared.types.ValType.TheVariants as value
use Rattle.wasm_types.specs.declared.composites.CompositeInnerType.{CompositeInnerType}
use Rattle.wasm_types.specs.declared.composites.CompositeInnerType.TheVariants as inner
use Rattle.wasm_types.specs.declared.fields.FieldType.{FieldType}
use Rattle.wasm_types.specs.declared.fields.StorageType.{StorageType}
use Rattle.wasm_types.specs.declared.fields.StorageType.TheVariants as storage
use Rattle.wasm_types.specs.declared.recursive.SubType.{SubType}
use Rattle.wasm_subtypes.specs.Alike.{AlikeHeap, AlikeReference, AlikeValue, AlikeStorage, AlikeField, AlikeInner, AlikeOptional, Alike, Each}
use Rattle.wasm_subtypes.specs.Keys.{bit, heap_number, value_number, storage_number, field_number, inner_numbers, super_number, type_numbers, group_numbers}
use Rattle.wasm_subtypes.proofs.Comparing.{each_length}

type_of_byte : ℕ → AbstractHeapType
type_of_byte n =
    if n == 117 then ty.NoCont else if n == 116 then ty.NoExn else if n == 115 then ty.NoFunc else if n == 114 then ty.NoExtern else if n == 113 then ty.None
    else if n == 112 then ty.Func else if n == 111 then ty.Extern else if n == 110 then ty.Any else if n == 109 then ty.Eq else if n == 108 then ty.I31
    else if n == 107 then ty.Struct else if n == 106 then ty.Array else if n == 105 then ty.Exn else ty.Cont

of_its_byte : (t : AbstractHeapType) → type_of_byte (heap_type_byte t) ≡ t
unfolding type_of_byte
of_its_byte ty.NoCont = refl
of_its_byte ty.NoExn = refl
of_its_byte ty.NoFunc = refl
of_its_byte ty.NoExtern = refl
of_its_byte ty.None = refl
of_its_byte ty.Func = refl
of_its_byte ty.Extern = refl
of_its_byte ty.Any = refl
of_its_byte ty.Eq = refl
of_its_byte ty.I31 = refl
of_its_byte ty.Struct = refl
of_its_byte ty.Array = refl
of_its_byte ty.Exn = refl
of_its_byte ty.Cont = refl

same_byte : (t u : AbstractHeapType) → heap_type_byte t ≡ heap_type_byte u → t ≡ u
same_byte t u e = sym (of_its_byte t) ∙ ap type_of_byte e ∙ of_its_byte u

two_parts : (m n : ℕ) (a b : Bool) → 2 * m + bit a ≡ 2 * n + bit b → (m ≡ n) × (a ≡ b)
two_parts m n false false e = (omega (arith, e), refl)
two_parts m n false true e = absurd (omega (arith, e))
two_parts m n true false e = absurd (omega (arith, e))
two_parts m n true true e = (omega (arith, e), refl)

four_parts : (m n : ℕ) (a b : Bool) → 4 * m + bit a ≡ 4 * n + bit b → (a ≡ b) × (m ≡ n)
four_parts m n false false e = (refl, omega (arith, e))
four_parts m n false true e = absurd (omega (arith, e))
four_parts m n true false e = absurd (omega (arith, e))
four_parts m n true true e = (refl, omega (arith, e))

below_two : (m n : ℕ) (a : Bool) → 4 * m + bit a ≡ 4 * n + 2 → ⊥
below_two m n false e = omega (arith, e)
below_two m n true e = omega (arith, e)

below_three : (m n : ℕ) (a : Bool) → 4 * m + bit a ≡ 4 * n + 3 → ⊥
below_three m n false e = omega (arith, e)
below_three m n true e = omega (arith, e)

length_map : {A : Type 0} (h : A → ℕ) (xs : List A) → length (map h xs) ≡ length xs
length_map h [] = refl
length_map h (x ∷ xs) = ap suc (length_map h xs)

-- Lists of the same length before others.
apart : (xs ys s t : List ℕ) → length xs ≡ length ys → xs ++ s ≡ ys ++ t → (xs ≡ ys) × (s ≡ t)
apart [] [] s t n e = (refl, e)
apart [] (y ∷ ys) s t n e = absurd (omega (arith, n))
apart (x ∷ xs) [] s t n e = absurd (omega (arith, n))
apart (x ∷ xs) (y ∷ ys) s t n e =
    let h = apart xs ys s t (omega (arith, n)) (let r : xs ++ s ≡ ys ++ t = cc e in r) in
    let k : x ≡ y = cc e in
    (ap (λ z. z ∷ xs) k ∙ ap (λ zs. y ∷ zs) h.0, h.1)

clash : (m n : ℕ) (u v : List ℕ) → (m ∷ u) ≡ (n ∷ v) → m ≡ n
clash m n u v e = cc e

map_to : {A : Type 0} (P : A → A → Type 0) (h k : A → ℕ) → ((a b : A) → P a b → h a ≡ k b) → (as_ bs : List A) → Each P as_ bs → map h as_ ≡ map k bs
map_to P h k one [] [] e = refl
map_to P h k one [] (b ∷ bs) e = absurd e
map_to P h k one (a ∷ as_) [] e = absurd e
map_to P h k one (a ∷ as_) (b ∷ bs) e = ap (λ n. n ∷ map h as_) (one a b e.0) ∙ ap (λ l. k b ∷ l) (map_to P h k one as_ bs e.1)

map_from : {A : Type 0} (P : A → A → Type 0) (h k : A → ℕ) → ((a b : A) → h a ≡ k b → P a b) → (as_ bs : List A) → map h as_ ≡ map k bs → Each P as_ bs
map_from P h k one [] [] e = tt
map_from P h k one [] (b ∷ bs) e = absurd (cc e)
map_from P h k one (a ∷ as_) [] e = absurd (cc e)
map_from P h k one (a ∷ as_) (b ∷ bs) e = (one a b (let n : h a ≡ k b = cc e in n), map_from P h k one as_ bs (let r : map h as_ ≡ map k bs = cc e in r))

module _ (R : ℕ → ℕ → Type 0) (f g : ℕ → ℕ) (to : (x y : ℕ) → R x y → f x ≡ g y) (from : (x y : ℕ) → f x ≡ g y → R x y) where
  heap_to : (a b : HeapType) → AlikeHeap R a b → heap_number f a ≡ heap_number g b
  heap_to (heap_type.Abstract s t) (heap_type.Abstract r u) e = ap (λ z. 4 * heap_type_byte t + bit z) e.0 ∙ ap (λ z. 4 * heap_type_byte z + bit r) e.1
  heap_to (heap_type.Abstract s t) (heap_type.Concrete y) e = absurd e
  heap_to (heap_type.Abstract s t) (heap_type.Exact y) e = absurd e
  heap_to (heap_type.Concrete x) (heap_type.Abstract r u) e = absurd e
  heap_to (heap_type.Concrete x) (heap_type.Concrete y) e = ap (λ n. 4 * n + 2) (to x y e)
  heap_to (heap_type.Concrete x) (heap_type.Exact y) e = absurd e
  heap_to (heap_type.Exact x) (heap_type.Abstract r u) e = absurd e
  heap_to (heap_type.Exact x) (heap_type.Concrete y) e = absurd e
  heap_to (heap_type.Exact x) (heap_type.Exact y) e = ap (λ n. 4 * n + 3) (to x y e)

  heap_from : (a b : HeapType) → heap_number f a ≡ heap_number g b → AlikeHeap R a b
  heap_from (heap_type.Abstract s t) (heap_type.Abstract r u) e = let h = four_parts (heap_type_byte t) (heap_type_byte u) s r e in (h.0, same_byte t u h.1)
  heap_from (heap_type.Abstract s t) (heap_type.Concrete y) e = absurd (below_two (heap_type_byte t) (g y) s e)
  heap_from (heap_type.Abstract s t) (heap_type.Exact y) e = absurd (below_three (heap_type_byte t) (g y) s e)
  heap_from (heap_type.Concrete x) (heap_type.Abstract r u) e = absurd (below_two (heap_type_byte u) (f x) r (sym e))
  heap_from (heap_type.Concrete x) (heap_type.Concrete y) e = from x y (let n : 4 * f x + 2 ≡ 4 * g y + 2 = e in omega (arith, n))
  heap_from (heap_type.Concrete x) (heap_type.Exact y) e = absurd (let n : 4 * f x + 2 ≡ 4 * g y + 3 = e in omega (arith, n))
  heap_from (heap_type.Exact x) (heap_type.Abstract r u) e = absurd (below_three (heap_type_byte u) (f x) r (sym e))
  heap_from (heap_type.Exact x) (heap_type.Concrete y) e = absurd (let n : 4 * f x + 3 ≡ 4 * g y + 2 = e in omega (arith, n))
  heap_from (heap_type.Exact x) (heap_type.Exact y) e = from x y (let n : 4 * f x + 3 ≡ 4 * g y + 3 = e in omega (arith, n))

  reference_to : (a b : Reference) → AlikeReference R a b → 5 + 2 * heap_number f a.heap_type + bit a.nullable ≡ 5 + 2 * heap_number g b.heap_type + bit b.nullable
  reference_to a b e = ap (λ z. 5 + 2 * heap_number f a.heap_type + bit z) e.0 ∙ ap (λ n. 5 + 2 * n + bit b.nullable) (heap_to a.heap_type b.heap_type e.1)

  reference_from : (a b : Reference) → 5 + 2 * heap_number f a.heap_type + bit a.nullable ≡ 5 + 2 * heap_number g b.heap_type + bit b.nullable → AlikeReference R a b
  reference_from a b e =
      let n : 2 * heap_number f a.heap_type + bit a.nullable ≡ 2 * heap_number g b.heap_type + bit b.nullable = omega (arith, e) in
      let h = two_parts (heap_number f a.heap_type) (heap_number g b.heap_type) a.nullable b.nullable n in
      (h.1, heap_from a.heap_type b.heap_type h.0)

  value_to : (a b : ValType) → AlikeValue R a b → value_number f a ≡ value_number g b
  value_to value.I32 value.I32 e = refl
  value_to value.I32 value.I64 e = absurd e
  value_to value.I32 value.F32 e = absurd e
  value_to value.I32 value.F64 e = absurd e
  value_to value.I32 value.V128 e = absurd e
  value_to value.I32 (value.Ref b) e = absurd e
  value_to value.I64 value.I32 e = absurd e
  value_to value.I64 value.I64 e = refl
  value_to value.I64 value.F32 e = absurd e
  value_to value.I64 value.F64 e = absurd e
  value_to value.I64 value.V128 e = absurd e
  value_to value.I64 (value.Ref b) e = absurd e
  value_to value.F32 value.I32 e = absurd e
  value_to value.F32 value.I64 e = absurd e
  value_to value.F32 value.F32 e = refl
  value_to value.F32 value.F64 e = absurd e
  value_to value.F32 value.V128 e = absurd e
  value_to value.F32 (value.Ref b) e = absurd e
  value_to value.F64 value.I32 e = absurd e
  value_to value.F64 value.I64 e = absurd e
  value_to value.F64 value.F32 e = absurd e
  value_to value.F64 value.F64 e = refl
  value_to value.F64 value.V128 e = absurd e
  value_to value.F64 (value.Ref b) e = absurd e
  value_to value.V128 value.I32 e = absurd e
  value_to value.V128 value.I64 e = absurd e
  value_to value.V128 value.F32 e = absurd e
  value_to value.V128 value.F64 e = absurd e
  value_to value.V128 value.V128 e = refl
  value_to value.V128 (value.Ref b) e = absurd e
  value_to (value.Ref a) value.I32 e = absurd e
  value_to (value.Ref a) value.I64 e = absurd e
  value_to (value.Ref a) value.F32 e = absurd e
  value_to (value.Ref a) value.F64 e = absurd e
  value_to (value.Ref a) value.V128 e = absurd e
  value_to (value.Ref a) (value.Ref b) e = reference_to a b e

  value_from : (a b : ValType) → value_number f a ≡ value_number g b → AlikeValue R a b
  value_from value.I32 value.I32 e = tt
  value_from value.I32 value.I64 e = absurd (omega (arith, e))
  value_from value.I32 value.F32 e = absurd (omega (arith, e))
  value_from value.I32 value.F64 e = absurd (omega (arith, e))
  value_from value.I32 value.V128 e = absurd (omega (arith, e))
  value_from value.I32 (value.Ref b) e = absurd (omega (arith, e))
  value_from value.I64 value.I32 e = absurd (omega (arith, e))
  value_from value.I64 value.I64 e = tt
  value_from value.I64 value.F32 e = absurd (omega (arith, e))
  value_from value.I64 value.F64 e = absurd (omega (arith, e))
  value_from value.I64 value.V128 e = absurd (omega (arith, e))
  value_from value.I64 (value.Ref b) e = absurd (omega (arith, e))
  value_from value.F32 value.I32 e = absurd (omega (arith, e))
  value_from value.F32 value.I64 e = absurd (omega (arith, e))
  value_from value.F32 value.F32 e = tt
  value_from value.F32 value.F64 e = absurd (omega (arith, e))
  value_from value.F32 value.V128 e = absurd (omega (arith, e))
  value_from value.F32 (value.Ref b) e = absurd (omega (arith, e))
  value_from value.F64 value.I32 e = absurd (omega (arith, e))
  value_from value.F64 value.I64 e = absurd (omega (arith, e))
  value_from value.F64 value.F32 e = absurd (omega (arith, e))
  value_from value.F64 value.F64 e = tt
  value_from value.F64 value.V128 e = absurd (omega (arith, e))
  value_from value.F64 (value.Ref b) e = absurd (omega (arith, e))
  value_from value.V128 value.I32 e = absurd (omega (arith, e))
  value_from value.V128 value.I64 e = absurd (omega (arith, e))
  value_from value.V128 value.F32 e = absurd (omega (arith, e))
  value_from value.V128 value.F64 e = absurd (omega (arith, e))
  value_from value.V128 value.V128 e = tt
  value_from value.V128 (value.Ref b) e = absurd (omega (arith, e))
  value_from (value.Ref a) value.I32 e = absurd (omega (arith, e))
  value_from (value.Ref a) value.I64 e = absurd (omega (arith, e))
  value_from (value.Ref a) value.F32 e = absurd (omega (arith, e))
  value_from (value.Ref a) value.F64 e = absurd (omega (arith, e))
  value_from (value.Ref a) value.V128 e = absurd (omega (arith, e))
  value_from (value.Ref a) (value.Ref b) e = reference_from a b e

  storage_to : (a b : StorageType) → AlikeStorage R a b → storage_number f a ≡ storage_number g b
  storage_to storage.I8 storage.I8 e = refl
  storage_to storage.I8 storage.I16 e = absurd e
  storage_to storage.I8 (storage.Val b) e = absurd e
  storage_to storage.I16 storage.I8 e = absurd e
  storage_to storage.I16 storage.I16 e = refl
  storage_to storage.I16 (storage.Val b) e = absurd e
  storage_to (storage.Val a) storage.I8 e = absurd e
  storage_to (storage.Val a) storage.I16 e = absurd e
  storage_to (storage.Val a) (storage.Val b) e = ap (λ n. 2 + n) (value_to a b e)

  storage_from : (a b : StorageType) → storage_number f a ≡ storage_number g b → AlikeStorage R a b
  storage_from storage.I8 storage.I8 e = tt
  storage_from storage.I8 storage.I16 e = absurd (omega (arith, e))
  storage_from storage.I8 (storage.Val b) e = absurd (omega (arith, e))
  storage_from storage.I16 storage.I8 e = absurd (omega (arith, e))
  storage_from storage.I16 storage.I16 e = tt
  storage_from storage.I16 (storage.Val b) e = absurd (omega (arith, e))
  storage_from (storage.Val a) storage.I8 e = absurd (omega (arith, e))
  storage_from (storage.Val a) storage.I16 e = absurd (omega (arith, e))
  storage_from (storage.Val a) (storage.Val b) e = value_from a b (let n : 2 + value_number f a ≡ 2 + value_number g b = e in omega (arith, n))

  field_to : (a b : FieldType) → AlikeField R a b → field_number f a ≡ field_number g b
  field_to a b e = ap (λ z. 2 * storage_number f a.element_type + bit z) e.0 ∙ ap (λ n. 2 * n + bit b.mutable) (storage_to a.element_type b.element_type e.1)

  field_from : (a b : FieldType) → field_number f a ≡ field_number g b → AlikeField R a b
  field_from a b e =
      let h = two_parts (storage_number f a.element_type) (storage_number g b.element_type) a.mutable b.mutable e in
      (h.1, storage_from a.element_type b.element_type h.0)

  abbrev Function : (ℕ → ℕ) → List ValType → List ValType → List ℕ
  Function h params results = 0 ∷ length params ∷ length results ∷ (map (value_number h) params ++ map (value_number h) results)

  function_to : (p q r s : List ValType) → Each (AlikeValue R) p r × Each (AlikeValue R) q s → Function f p q ≡ Function g r s
  function_to p q r s e =
      let n = each_length (AlikeValue R) p r e.0 in
      let m = each_length (AlikeValue R) q s e.1 in
      let x = map_to (AlikeValue R) (value_number f) (value_number g) value_to p r e.0 in
      let y = map_to (AlikeValue R) (value_number f) (value_number g) value_to q s e.1 in
      cc (n, m, x, y)

  function_from : (p q r s : List ValType) (u v : List ℕ) → Function f p q ++ u ≡ Function g r s ++ v → (Each (AlikeValue R) p r × Each (AlikeValue R) q s) × (u ≡ v)
  function_from p q r s u v e =
      let fp = map (value_number f) p in
      let fq = map (value_number f) q in
      let gr = map (value_number g) r in
      let gs = map (value_number g) s in
      let n : length p ≡ length r = cc e in
      let m : length q ≡ length s = cc e in
      let w : (fp ++ fq) ++ u ≡ (gr ++ gs) ++ v = cc e in
      let first = apart fp gr (fq ++ u) (gs ++ v) (length_map (value_number f) p ∙ n ∙ sym (length_map (value_number g) r)) (sym (append_assoc fp fq u) ∙ w ∙ append_assoc gr gs v) in
      let second = apart fq gs u v (length_map (value_number f) q ∙ m ∙ sym (length_map (value_number g) s)) first.1 in (
        (map_from (AlikeValue R) (value_number f) (value_number g) value_from p r first.0, map_from (AlikeValue R) (value_number f) (value_number g) value_from q s second.0),
        second.1,
      )

  struct_to : (a b : List FieldType) → Each (AlikeField R) a b → (2 ∷ length a ∷ map (field_number f) a) ≡ (2 ∷ length b ∷ map (field_number g) b)
  struct_to a b e = let n = each_length (AlikeField R) a b e in let x = map_to (AlikeField R) (field_number f) (field_number g) field_to a b e in cc (n, x)

  struct_from : (a b : List FieldType) (u v : List ℕ) → (2 ∷ length a ∷ map (field_number f) a) ++ u ≡ (2 ∷ length b ∷ map (field_number g) b) ++ v → Each (AlikeField R) a b × (u ≡ v)
  struct_from a b u v e =
      let n : length a ≡ length b = cc e in
      let w : map (field_number f) a ++ u ≡ map (field_number g) b ++ v = cc e in
      let h = apart (map (field_number f) a) (map (field_number g) b) u v (length_map (field_number f) a ∙ n ∙ sym (length_map (field_number g) b)) w in
      (map_from (AlikeField R) (field_number f) (field_number g) field_from a b h.0, h.1)

  inner_to : (a b : CompositeInnerType) → AlikeInner R a b → inner_numbers f a ≡ inner_numbers g b
  inner_to (inner.Func a) (inner.Func b) e = function_to a.params a.results b.params b.results e
  inner_to (inner.Func a) (inner.Array b) e = absurd e
  inner_to (inner.Func a) (inner.Struct b) e = absurd e
  inner_to (inner.Func a) (inner.Cont b) e = absurd e
  inner_to (inner.Array a) (inner.Func b) e = absurd e
  inner_to (inner.Array a) (inner.Array b) e = ap (λ n. 1 ∷ n ∷ []) (field_to a.0 b.0 e)
  inner_to (inner.Array a) (inner.Struct b) e = absurd e
  inner_to (inner.Array a) (inner.Cont b) e = absurd e
  inner_to (inner.Struct a) (inner.Func b) e = absurd e
  inner_to (inner.Struct a) (inner.Array b) e = absurd e
  inner_to (inner.Struct a) (inner.Struct b) e = struct_to a.fields b.fields e
  inner_to (inner.Struct a) (inner.Cont b) e = absurd e
  inner_to (inner.Cont a) (inner.Func b) e = absurd e
  inner_to (inner.Cont a) (inner.Array b) e = absurd e
  inner_to (inner.Cont a) (inner.Struct b) e = absurd e
  inner_to (inner.Cont a) (inner.Cont b) e = ap (λ n. 3 ∷ n ∷ []) (to a.0 b.0 e)

  inner_from : (a b : CompositeInnerType) (s t : List ℕ) → inner_numbers f a ++ s ≡ inner_numbers g b ++ t → AlikeInner R a b × (s ≡ t)
  inner_from (inner.Func a) (inner.Func b) s t e = function_from a.params a.results b.params b.results s t e
  inner_from (inner.Func a) (inner.Array b) s t e = absurd (let n = clash 0 1 _ _ e in omega (arith, n))
  inner_from (inner.Func a) (inner.Struct b) s t e = absurd (let n = clash 0 2 _ _ e in omega (arith, n))
  inner_from (inner.Func a) (inner.Cont b) s t e = absurd (let n = clash 0 3 _ _ e in omega (arith, n))
  inner_from (inner.Array a) (inner.Func b) s t e = absurd (let n = clash 1 0 _ _ e in omega (arith, n))
  inner_from (inner.Array a) (inner.Array b) s t e = (field_from a.0 b.0 (let n : field_number f a.0 ≡ field_number g b.0 = cc e in n), (let r : s ≡ t = cc e in r))
  inner_from (inner.Array a) (inner.Struct b) s t e = absurd (let n = clash 1 2 _ _ e in omega (arith, n))
  inner_from (inner.Array a) (inner.Cont b) s t e = absurd (let n = clash 1 3 _ _ e in omega (arith, n))
  inner_from (inner.Struct a) (inner.Func b) s t e = absurd (let n = clash 2 0 _ _ e in omega (arith, n))
  inner_from (inner.Struct a) (inner.Array b) s t e = absurd (let n = clash 2 1 _ _ e in omega (arith, n))
  inner_from (inner.Struct a) (inner.Struct b) s t e = struct_from a.fields b.fields s t e
  inner_from (inner.Struct a) (inner.Cont b) s t e = absurd (let n = clash 2 3 _ _ e in omega (arith, n))
  inner_from (inner.Cont a) (inner.Func b) s t e = absurd (let n = clash 3 0 _ _ e in omega (arith, n))
  inner_from (inner.Cont a) (inner.Array b) s t e = absurd (let n = clash 3 1 _ _ e in omega (arith, n))
  inner_from (inner.Cont a) (inner.Struct b) s t e = absurd (let n = clash 3 2 _ _ e in omega (arith, n))
  inner_from (inner.Cont a) (inner.Cont b) s t e = (from a.0 b.0 (let n : f a.0 ≡ g b.0 = cc e in n), (let r : s ≡ t = cc e in r))

  super_to : (a b : Option ℕ) → AlikeOptional R a b → super_number f a ≡ super_number g b
  super_to None None e = refl
  super_to None (Some y) e = absurd e
  super_to (Some x) None e = absurd e
  super_to (Some x) (Some y) e = ap suc (to x y e)

  super_from : (a b : Option ℕ) → super_number f a ≡ super_number g b → AlikeOptional R a b
  super_from None None e = tt
  super_from None (Some y) e = absurd (omega (arith, e))
  super_from (Some x) None e = absurd (omega (arith, e))
  super_from (Some x) (Some y) e = from x y (let n : suc (f x) ≡ suc (g y) = e in omega (arith, n))

  type_to : (a b : SubType) → Alike R a b → type_numbers f a ≡ type_numbers g b
  type_to a b e =
      let n = ap (λ z. 2 * bit z + bit a.composite_type.shared) e.finality ∙ ap (λ z. 2 * bit b.is_final + bit z) e.shared in
      let m = super_to a.supertype_idx b.supertype_idx e.super in
      let x = inner_to a.composite_type.inner b.composite_type.inner e.composite in
      cc (n, m, x)

  same_bits : (a b c d : Bool) → 2 * bit a + bit b ≡ 2 * bit c + bit d → (a ≡ c) × (b ≡ d)
  same_bits a b c d e = let h = two_parts (bit a) (bit c) b d e in (one a c h.0, h.1)
    where
      one : (a c : Bool) → bit a ≡ bit c → a ≡ c
      one false false e = refl
      one false true e = absurd (omega (arith, e))
      one true false e = absurd (omega (arith, e))
      one true true e = refl

  type_from : (a b : SubType) (s t : List ℕ) → type_numbers f a ++ s ≡ type_numbers g b ++ t → Alike R a b × (s ≡ t)
  type_from a b s t e =
      let n : 2 * bit a.is_final + bit a.composite_type.shared ≡ 2 * bit b.is_final + bit b.composite_type.shared = cc e in
      let m : super_number f a.supertype_idx ≡ super_number g b.supertype_idx = cc e in
      let w : inner_numbers f a.composite_type.inner ++ s ≡ inner_numbers g b.composite_type.inner ++ t = cc e in
      let h = same_bits a.is_final a.composite_type.shared b.is_final b.composite_type.shared n in
      let k = inner_from a.composite_type.inner b.composite_type.inner s t w in
      (record { finality = h.0; super = super_from a.supertype_idx b.supertype_idx m; shared = h.1; composite = k.0 }, k.1)

  pub group_to : (as_ bs : List SubType) → Each (Alike R) as_ bs → group_numbers f as_ ≡ group_numbers g bs
  group_to [] [] e = refl
  group_to [] (b ∷ bs) e = absurd e
  group_to (a ∷ as_) [] e = absurd e
  group_to (a ∷ as_) (b ∷ bs) e = ap (λ l. l ++ group_numbers f as_) (type_to a b e.0) ∙ ap (λ l. type_numbers g b ++ l) (group_to as_ bs e.1)

  pub group_from : (as_ bs : List SubType) → group_numbers f as_ ≡ group_numbers g bs → Each (Alike R) as_ bs
  group_from [] [] e = tt
  group_from [] (b ∷ bs) e = absurd (cc e)
  group_from (a ∷ as_) [] e = absurd (cc e)
  group_from (a ∷ as_) (b ∷ bs) e = let h = type_from a b (group_numbers f as_) (group_numbers g bs) e in (h.0, group_from as_ bs h.1)
