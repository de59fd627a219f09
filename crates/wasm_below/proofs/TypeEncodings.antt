-- The first byte of a type, and the errors of its parts.
use Rattle.std.proofs.Common.{◌≡◌, ◌≢◌, ℕ, ◌<◌, ◌≤◌, inl, inr, Bool, true, false, List, [], ◌∷◌, ◌++◌, refl, sym, subst, ap, ◌∙◌, append_assoc, arith, lit≤, ℤ, pos}
use Rattle.std.proofs.lemmas.Bool.{le-ltb, lt-ltb}
use Rattle.std.proofs.lemmas.Int.{ints}
use Rattle.wasm_below.specs.declared.types.AbstractHeapType.{AbstractHeapType}
use Rattle.wasm_below.specs.declared.types.AbstractHeapType.TheVariants as ty
use Rattle.wasm_below.specs.declared.types.HeapType.{HeapType}
use Rattle.wasm_below.specs.declared.types.HeapType.TheVariants as heap
use Rattle.wasm_below.specs.declared.types.ValType.{ValType}
use Rattle.wasm_below.specs.declared.types.ValType.TheVariants as value
use Rattle.wasm_below.specs.Number.{EncodesUnsigned, EncodesSigned, last_value, with_sign}
use Rattle.wasm_below.specs.Reference.{Reference, max_type_index}
use Rattle.wasm_below.specs.declared.message.Message.{Message}
use Rattle.wasm_below.specs.declared.message.TypeName.TheVariants as type_name
use Rattle.wasm_below.specs.Source.{Reader, rest, NoPrefix, BeginsWith}
use Rattle.wasm_below.specs.TypeEncoding.{ShortFault, ByteFault, RefTypeFault, ValTypeFault, heap_type_byte, ref_byte, LeadsShort, LeadsRefType, EncodesShort, EncodesConcrete, EncodesExact, EncodesHeapType, EncodesShortRef, EncodesLongRef, EncodesRefType, EncodesNumberType, EncodesValType}
use Rattle.wasm_below.proofs.PrefixCode.{unsigned_prefix_code, signed_prefix_code}

pub heap_byte_within : (t : AbstractHeapType) → (104 ≤ heap_type_byte t) × (heap_type_byte t ≤ 117)
heap_byte_within ty.NoCont = (lit≤ tt, lit≤ tt)
heap_byte_within ty.NoExn = (lit≤ tt, lit≤ tt)
heap_byte_within ty.NoFunc = (lit≤ tt, lit≤ tt)
heap_byte_within ty.NoExtern = (lit≤ tt, lit≤ tt)
heap_byte_within ty.None = (lit≤ tt, lit≤ tt)
heap_byte_within ty.Func = (lit≤ tt, lit≤ tt)
heap_byte_within ty.Extern = (lit≤ tt, lit≤ tt)
heap_byte_within ty.Any = (lit≤ tt, lit≤ tt)
heap_byte_within ty.Eq = (lit≤ tt, lit≤ tt)
heap_byte_within ty.I31 = (lit≤ tt, lit≤ tt)
heap_byte_within ty.Struct = (lit≤ tt, lit≤ tt)
heap_byte_within ty.Array = (lit≤ tt, lit≤ tt)
heap_byte_within ty.Exn = (lit≤ tt, lit≤ tt)
heap_byte_within ty.Cont = (lit≤ tt, lit≤ tt)

pub short_leads : (b : ℕ) (tail : List ℕ) (h : HeapType) → EncodesShort (b ∷ tail) h → LeadsShort b
short_leads b tail (heap.Abstract false t) e =
    let w = heap_byte_within t in
    let same : b ≡ heap_type_byte t = cc e in
    (omega (arith, w, same), omega (arith, w, same), λ f. omega (arith, w, same, f), λ f. omega (arith, w, same, f))
short_leads b tail (heap.Abstract true t) e =
    let same : b ≡ 101 = cc e in
    (omega (arith, same), omega (arith, same), λ f. omega (arith, same, f), λ f. omega (arith, same, f))
short_leads b tail (heap.Concrete _) e = absurd e
short_leads b tail (heap.Exact _) e = absurd e

pub index_leads : (width b : ℕ) (tail : List ℕ) (i : ℕ) → EncodesSigned width (b ∷ tail) (pos i) → 64 ≤ b → b < 128 → ⊥
index_leads width b [] i (lt, same, fits) ge lt2 = negative b i ge lt2 same
  where
    negative : (b i : ℕ) → 64 ≤ b → b < 128 → pos i ≡ last_value b → ⊥
    negative b i ge lt e = omega (arith, ints, e ∙ ap (λ t. with_sign t b 128) (le-ltb b 64 ge))
index_leads width b (c ∷ tail) i p ge lt = omega (arith, p.1)

pub heap_empty : (h : HeapType) → EncodesHeapType [] h → ⊥
heap_empty (heap.Abstract false t) e = cc e
heap_empty (heap.Abstract true t) e = cc e
heap_empty (heap.Concrete i) p = p.0
heap_empty (heap.Exact i) p = (let e : [] ≡ 98 ∷ p.0 = p.1 in cc e)

pub heap_short : (b : ℕ) → LeadsShort b → (tail : List ℕ) (h : HeapType) → EncodesHeapType (b ∷ tail) h → EncodesShort (b ∷ tail) h
heap_short b l tail (heap.Abstract shared t) p = p
heap_short b l tail (heap.Concrete i) p = absurd (index_leads 33 b tail i p.0 (omega arith) (omega arith))
heap_short b l tail (heap.Exact i) p = (let same : b ≡ 98 = cc (p.1) in absurd (omega (arith, same, l.0)))

pub heap_exact : (b : ℕ) → b ≡ 98 → (tail : List ℕ) (h : HeapType) → EncodesHeapType (b ∷ tail) h → EncodesExact (b ∷ tail) h
heap_exact b l tail (heap.Abstract shared t) p = (let s = short_leads b tail (heap.Abstract shared t) p in absurd (omega (arith, s.0, l)))
heap_exact b l tail (heap.Concrete i) p = absurd (index_leads 33 b tail i p.0 (omega arith) (omega arith))
heap_exact b l tail (heap.Exact i) p = p

pub heap_concrete : (b : ℕ) → (LeadsShort b → ⊥) → b ≢ 98 → (tail : List ℕ) (h : HeapType) → EncodesHeapType (b ∷ tail) h → EncodesConcrete (b ∷ tail) h
heap_concrete b l x tail (heap.Abstract shared t) p = absurd (l (short_leads b tail (heap.Abstract shared t) p))
heap_concrete b l x tail (heap.Concrete i) p = p
heap_concrete b l x tail (heap.Exact i) p = absurd (x (cc (p.1)))

pub short_index : (byte : ℕ) → byte < 64 → EncodesSigned 33 (byte ∷ []) (pos byte)
short_index byte lt = (omega arith, ap (λ t. with_sign t byte 128) (sym (lt-ltb byte 64 lt)), (omega (arith, ints), omega (arith, ints)))

pub short_heap : (text : List ℕ) (h : HeapType) → EncodesShort text h → EncodesHeapType text h
short_heap text (heap.Abstract shared t) p = p
short_heap text (heap.Concrete i) p = absurd p
short_heap text (heap.Exact i) p = absurd p

pub exact_heap : (text : List ℕ) (h : HeapType) → EncodesExact text h → EncodesHeapType text h
exact_heap text (heap.Abstract shared t) p = absurd p
exact_heap text (heap.Concrete i) p = absurd p
exact_heap text (heap.Exact i) p = p

pub concrete_heap : (text : List ℕ) (h : HeapType) → EncodesConcrete text h → EncodesHeapType text h
concrete_heap text (heap.Abstract shared t) p = absurd p
concrete_heap text (heap.Concrete i) p = p
concrete_heap text (heap.Exact i) p = absurd p

pub no_concrete : (text after more : List ℕ) (n : ℤ) → EncodesSigned 33 text n → ((i : ℕ) → n ≡ pos i → i ≤ max_type_index → ⊥) →
    NoPrefix EncodesConcrete ((text ++ after) ++ more)
no_concrete text after more n p over t2 more2 (heap.Abstract shared t) q e = q
no_concrete text after more n p over t2 more2 (heap.Concrete i) q e =
    over i (signed_prefix_code text t2 33 (after ++ more) more2 n (pos i) p q.0 (sym (append_assoc text after more) ∙ e)).1 q.1
no_concrete text after more n p over t2 more2 (heap.Exact i) q e = q

pub no_exact : (text after more : List ℕ) (n : ℕ) → EncodesUnsigned 32 text n → max_type_index < n → NoPrefix EncodesExact (((98 ∷ text) ++ after) ++ more)
no_exact text after more n p over t2 more2 (heap.Abstract shared t) q e = q
no_exact text after more n p over t2 more2 (heap.Concrete i) q e = q
no_exact text after more n p over t2 more2 (heap.Exact i) (later, prefix, q, within) e =
    let same : n ≡ i = (unsigned_prefix_code text later 32 (after ++ more) more2 n i p q (sym (append_assoc text after more) ∙
    cc (e, ap (λ z. z ++ more2) prefix))).1 in
    omega (arith, within)

pub exact_after : (tail : List ℕ) (h : HeapType) → EncodesExact (98 ∷ tail) h → (n : ℕ) × EncodesUnsigned 32 tail n
exact_after tail (heap.Abstract shared t) p = absurd p
exact_after tail (heap.Concrete i) p = absurd p
exact_after tail (heap.Exact i) (after, prefix, q, within) = (i, subst (λ z. EncodesUnsigned 32 z i) (cc (prefix)) q)

pub exact_empty : (h : HeapType) → EncodesExact [] h → ⊥
exact_empty (heap.Abstract shared t) p = p
exact_empty (heap.Concrete i) p = p
exact_empty (heap.Exact i) p = cc (p.1)

pub ref_empty : (r : Reference) → EncodesRefType [] r → ⊥
ref_empty r (inl p) = heap_empty r.heap_type (short_heap [] r.heap_type p.1)
ref_empty r (inr p) = cc (p.1)

pub long_empty : (r : Reference) → EncodesLongRef [] r → ⊥
long_empty r p = cc (p.1)

pub ref_byte_leads : (n : Bool) → (LeadsShort (ref_byte n) → ⊥) × LeadsRefType (ref_byte n)
ref_byte_leads true = (λ l. omega (arith, l.0), (lit≤ tt, lit≤ tt, λ e. omega (arith, e), λ e. omega (arith, e)))
ref_byte_leads false = (λ l. omega (arith, l.0), (lit≤ tt, lit≤ tt, λ e. omega (arith, e), λ e. omega (arith, e)))

pub ref_long : (n : Bool) (tail : List ℕ) (r : Reference) → EncodesRefType (ref_byte n ∷ tail) r → EncodesLongRef (ref_byte n ∷ tail) r
ref_long n tail r (inl p) = absurd ((ref_byte_leads n).0 (short_leads (ref_byte n) tail r.heap_type p.1))
ref_long n tail r (inr p) = p

no_ref_byte : (b : ℕ) → b ≢ 99 → b ≢ 100 → (n : Bool) → b ≢ ref_byte n
no_ref_byte b x y true = x
no_ref_byte b x y false = y

pub ref_short : (b : ℕ) → b ≢ 99 → b ≢ 100 → (tail : List ℕ) (r : Reference) → EncodesRefType (b ∷ tail) r → EncodesShortRef (b ∷ tail) r
ref_short b x y tail r (inl p) = p
ref_short b x y tail r (inr p) = absurd (no_ref_byte b x y r.nullable (cc (p.1)))

pub short_ref : (text : List ℕ) (r : Reference) → EncodesShortRef text r → EncodesRefType text r
short_ref text r p = inl p

pub long_ref : (text : List ℕ) (r : Reference) → EncodesLongRef text r → EncodesRefType text r
long_ref text r p = inr p

pub long_after : (n : Bool) (tail : List ℕ) (r : Reference) → EncodesLongRef (ref_byte n ∷ tail) r → (h : HeapType) × EncodesHeapType tail h
long_after n tail r (after, prefix, p) = (r.heap_type, subst (λ z. EncodesHeapType z r.heap_type) (cc (prefix)) p)

pub ref_leads : (b : ℕ) (tail : List ℕ) (r : Reference) → EncodesRefType (b ∷ tail) r → LeadsRefType b
ref_leads b tail r (inl p) = (let l = short_leads b tail r.heap_type p.1 in (omega (arith, l.0), l.1, l.2, l.3))
ref_leads b tail r (inr p) = subst LeadsRefType (let e : ref_byte r.nullable ≡ b = cc (p.1) in e) (ref_byte_leads r.nullable).1

pub value_empty : (v : ValType) → EncodesValType [] v → ⊥
value_empty value.I32 e = cc e
value_empty value.I64 e = cc e
value_empty value.F32 e = cc e
value_empty value.F64 e = cc e
value_empty value.V128 e = cc e
value_empty (value.Ref r) p = ref_empty r p

pub number_leads : (b : ℕ) (tail : List ℕ) (v : ValType) → EncodesNumberType (b ∷ tail) v → 123 ≤ b
number_leads b tail value.I32 e = (let same : b ≡ 127 = cc e in omega arith)
number_leads b tail value.I64 e = (let same : b ≡ 126 = cc e in omega arith)
number_leads b tail value.F32 e = (let same : b ≡ 125 = cc e in omega arith)
number_leads b tail value.F64 e = (let same : b ≡ 124 = cc e in omega arith)
number_leads b tail value.V128 e = (let same : b ≡ 123 = cc e in omega arith)
number_leads b tail (value.Ref r) e = absurd e

pub number_value : (text : List ℕ) (v : ValType) → EncodesNumberType text v → EncodesValType text v
number_value text value.I32 e = e
number_value text value.I64 e = e
number_value text value.F32 e = e
number_value text value.F64 e = e
number_value text value.V128 e = e
number_value text (value.Ref r) e = absurd e

pub value_number : (b : ℕ) → (LeadsRefType b → ⊥) → (tail : List ℕ) (v : ValType) → EncodesValType (b ∷ tail) v → EncodesNumberType (b ∷ tail) v
value_number b l tail value.I32 e = e
value_number b l tail value.I64 e = e
value_number b l tail value.F32 e = e
value_number b l tail value.F64 e = e
value_number b l tail value.V128 e = e
value_number b l tail (value.Ref r) p = absurd (l (ref_leads b tail r p))

pub value_is_ref : (b : ℕ) → LeadsRefType b → (tail : List ℕ) (v : ValType) → EncodesValType (b ∷ tail) v →
    (r : Reference) × (v ≡ value.Ref r) × EncodesRefType (b ∷ tail) r
value_is_ref b l tail value.I32 e = (let low = number_leads b tail value.I32 e in absurd (omega (arith, l.1)))
value_is_ref b l tail value.I64 e = (let low = number_leads b tail value.I64 e in absurd (omega (arith, l.1)))
value_is_ref b l tail value.F32 e = (let low = number_leads b tail value.F32 e in absurd (omega (arith, l.1)))
value_is_ref b l tail value.F64 e = (let low = number_leads b tail value.F64 e in absurd (omega (arith, l.1)))
value_is_ref b l tail value.V128 e = (let low = number_leads b tail value.V128 e in absurd (omega (arith, l.1)))
value_is_ref b l tail (value.Ref r) p = (r, refl, p)

pub value_ref : (b : ℕ) → LeadsRefType b → (tail : List ℕ) (v : ValType) → EncodesValType (b ∷ tail) v → (r : Reference) × EncodesRefType (b ∷ tail) r
value_ref b l tail v p = (let s = value_is_ref b l tail v p in (s.0, s.2))

pub short_ref_fault : (b : ℕ) (r : Reader) → BeginsWith b (rest r) → b ≢ 99 → b ≢ 100 → (m : Message) (offset : ℕ) →
    ShortFault type_name.ReferenceType m r offset → RefTypeFault m r offset
short_ref_fault b r prefix x y m offset h = inr (λ n f. no_ref_byte b x y n (let g : b ≡ ref_byte n = cc (prefix.1, f.1) in g), h)

pub byte_fault : (b : ℕ) (r : Reader) → BeginsWith b (rest r) → (LeadsRefType b → ⊥) → (m : Message) (offset : ℕ) →
    ByteFault type_name.ValueType m r offset → ValTypeFault m r offset
byte_fault b r prefix x m offset h = inr (λ c l f. x (subst LeadsRefType (let g : c ≡ b = cc (prefix.1, f.1) in g) l), h)

pub concrete_number : (text : List ℕ) (h : HeapType) → EncodesConcrete text h → (n : ℤ) × EncodesSigned 33 text n
concrete_number text (heap.Abstract shared t) p = absurd p
concrete_number text (heap.Concrete i) p = (pos i, p.0)
concrete_number text (heap.Exact i) p = absurd p
