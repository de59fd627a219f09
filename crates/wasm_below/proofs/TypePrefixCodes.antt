use Rattle.std.proofs.Common.{◌≡◌, ◌==◌, ℕ, ◌<◌, ◌≤◌, inl, inr, Bool, true, false, if◌then◌else◌, List, [], ◌∷◌, ◌++◌, refl, sym, subst, ap, ◌∙◌, arith, pos}
use Rattle.wasm_below.specs.declared.types.AbstractHeapType.{AbstractHeapType}
use Rattle.wasm_below.specs.declared.types.AbstractHeapType.TheVariants as ty
use Rattle.wasm_below.specs.declared.types.HeapType.TheVariants as heap
use Rattle.wasm_below.specs.declared.types.ValType.{ValType}
use Rattle.wasm_below.specs.declared.types.ValType.TheVariants as value
use Rattle.wasm_below.specs.Reference.{Reference}
use Rattle.wasm_below.specs.Sequence.{PrefixCode}
use Rattle.wasm_below.specs.TypeEncoding.{heap_type_byte, ref_byte, LeadsShort, LeadsRefType, EncodesShort, EncodesConcrete, EncodesExact, EncodesHeapType, EncodesShortRef, EncodesLongRef, EncodesRefType, EncodesNumberType, EncodesValType}
use Rattle.wasm_below.proofs.PrefixCode.{unsigned_prefix_code, signed_prefix_code}
use Rattle.wasm_below.proofs.TypeEncodings.{heap_byte_within, ref_byte_leads, short_leads, index_leads, ref_leads, heap_empty, heap_short, heap_exact, heap_concrete, ref_empty, value_empty, value_is_ref, value_number, number_leads}

abstract_at : ℕ → AbstractHeapType
abstract_at n =
    if n == 117 then ty.NoCont else if n == 116 then ty.NoExn else if n == 115 then ty.NoFunc else if n == 114 then ty.NoExtern else if n == 113 then ty.None
    else if n == 112 then ty.Func else if n == 111 then ty.Extern else if n == 110 then ty.Any else if n == 109 then ty.Eq else if n == 108 then ty.I31
    else if n == 107 then ty.Struct else if n == 106 then ty.Array else if n == 105 then ty.Exn else ty.Cont

abstract_at-heap_type_byte : (t : AbstractHeapType) → abstract_at (heap_type_byte t) ≡ t
unfolding abstract_at
abstract_at-heap_type_byte ty.NoCont = refl
abstract_at-heap_type_byte ty.NoExn = refl
abstract_at-heap_type_byte ty.NoFunc = refl
abstract_at-heap_type_byte ty.NoExtern = refl
abstract_at-heap_type_byte ty.None = refl
abstract_at-heap_type_byte ty.Func = refl
abstract_at-heap_type_byte ty.Extern = refl
abstract_at-heap_type_byte ty.Any = refl
abstract_at-heap_type_byte ty.Eq = refl
abstract_at-heap_type_byte ty.I31 = refl
abstract_at-heap_type_byte ty.Struct = refl
abstract_at-heap_type_byte ty.Array = refl
abstract_at-heap_type_byte ty.Exn = refl
abstract_at-heap_type_byte ty.Cont = refl

heap_type_byte_injective : (t u : AbstractHeapType) → heap_type_byte t ≡ heap_type_byte u → t ≡ u
heap_type_byte_injective t u e = sym (abstract_at-heap_type_byte t) ∙ ap abstract_at e ∙ abstract_at-heap_type_byte u

short_prefix_code : PrefixCode EncodesShort
short_prefix_code a b x y (heap.Abstract false t) (heap.Abstract false u) p q e =
    let same : heap_type_byte t ≡ heap_type_byte u = cc (ap (λ z. z ++ x) p, ap (λ z. z ++ y) q, e) in
    (p ∙ ap (λ z. z ∷ []) same ∙ sym q, ap (heap.Abstract false) (heap_type_byte_injective t u same))
short_prefix_code a b x y (heap.Abstract false t) (heap.Abstract true u) p q e =
    let same : heap_type_byte t ≡ 101 = cc (ap (λ z. z ++ x) p, ap (λ z. z ++ y) q, e) in
    absurd (omega (arith, heap_byte_within t))
short_prefix_code a b x y (heap.Abstract true t) (heap.Abstract false u) p q e =
    let same : heap_type_byte u ≡ 101 = cc (ap (λ z. z ++ x) p, ap (λ z. z ++ y) q, e) in
    absurd (omega (arith, heap_byte_within u))
short_prefix_code a b x y (heap.Abstract true t) (heap.Abstract true u) p q e =
    let same : heap_type_byte t ≡ heap_type_byte u = cc (ap (λ z. z ++ x) p, ap (λ z. z ++ y) q, e) in
    (p ∙ ap (λ z. 101 ∷ z ∷ []) same ∙ sym q, ap (heap.Abstract true) (heap_type_byte_injective t u same))
short_prefix_code a b x y (heap.Concrete i) n p q e = absurd p
short_prefix_code a b x y (heap.Exact i) n p q e = absurd p
short_prefix_code a b x y (heap.Abstract shared t) (heap.Concrete i) p q e = absurd q
short_prefix_code a b x y (heap.Abstract shared t) (heap.Exact i) p q e = absurd q

concrete_prefix_code : PrefixCode EncodesConcrete
concrete_prefix_code a b x y (heap.Concrete i) (heap.Concrete j) p q e =
    let s = signed_prefix_code a b 33 x y (pos i) (pos j) p.0 q.0 e in
    (s.0, ap heap.Concrete (cc (s.1)))
concrete_prefix_code a b x y (heap.Abstract shared t) n p q e = absurd p
concrete_prefix_code a b x y (heap.Exact i) n p q e = absurd p
concrete_prefix_code a b x y (heap.Concrete i) (heap.Abstract shared t) p q e = absurd q
concrete_prefix_code a b x y (heap.Concrete i) (heap.Exact j) p q e = absurd q

exact_prefix_code : PrefixCode EncodesExact
exact_prefix_code a b x y (heap.Exact i) (heap.Exact j) (a2, ea, p, _) (b2, eb, q, _) e =
    let s = unsigned_prefix_code a2 b2 32 x y i j p q (cc (ap (λ z. z ++ x) ea, ap (λ z. z ++ y) eb, e)) in
    (ea ∙ ap (λ z. 98 ∷ z) s.0 ∙ sym eb, ap heap.Exact s.1)
exact_prefix_code a b x y (heap.Abstract shared t) n p q e = absurd p
exact_prefix_code a b x y (heap.Concrete i) n p q e = absurd p
exact_prefix_code a b x y (heap.Exact i) (heap.Abstract shared t) p q e = absurd q
exact_prefix_code a b x y (heap.Exact i) (heap.Concrete j) p q e = absurd q

pub heap_prefix_code : PrefixCode EncodesHeapType
heap_prefix_code [] b x y m n p q e = absurd (heap_empty m p)
heap_prefix_code (c ∷ a) [] x y m n p q e = absurd (heap_empty n q)
heap_prefix_code (c ∷ a) (d ∷ b) x y (heap.Abstract shared t) n p q e =
    let same : c ≡ d = cc e in
    let l = short_leads c a (heap.Abstract shared t) p in
    short_prefix_code (c ∷ a) (d ∷ b) x y (heap.Abstract shared t) n p (heap_short d (subst LeadsShort same l) b n q) e
heap_prefix_code (c ∷ a) (d ∷ b) x y (heap.Concrete i) n p q e =
    let same : c ≡ d = cc e in
    let far : 64 ≤ d → d < 128 → ⊥ = subst (λ z. 64 ≤ z → z < 128 → ⊥) same (index_leads 33 c a i p.0) in
    concrete_prefix_code (c ∷ a) (d ∷ b) x y (heap.Concrete i) n p
    (heap_concrete d (λ l. far (omega (arith, l.0)) (omega (arith, l.1))) (λ w. far (omega (arith, w)) (omega (arith, w))) b n q) e
heap_prefix_code (c ∷ a) (d ∷ b) x y (heap.Exact i) n p q e =
    let same : d ≡ 98 = cc (e, p.1) in
    exact_prefix_code (c ∷ a) (d ∷ b) x y (heap.Exact i) n p (heap_exact d same b n q) e

pub same_reference : (r s : Reference) → r.nullable ≡ s.nullable → r.heap_type ≡ s.heap_type → r ≡ s
same_reference r s n h =
    ap (λ z. record { nullable = z; heap_type = r.heap_type }) n ∙ ap (λ z. record { nullable = s.nullable; heap_type = z }) h

ref_byte_injective : (m n : Bool) → ref_byte m ≡ ref_byte n → m ≡ n
ref_byte_injective true true e = refl
ref_byte_injective false false e = refl
ref_byte_injective true false e = absurd (omega (arith, e))
ref_byte_injective false true e = absurd (omega (arith, e))

short_long : (a b x y : List ℕ) (r s : Reference) → EncodesShortRef a r → EncodesLongRef b s → a ++ x ≡ b ++ y → ⊥
short_long [] b x y r s p q e = ref_empty r (inl p)
short_long (c ∷ a) b x y r s p q e =
    let same : c ≡ ref_byte s.nullable = cc (e, ap (λ z. z ++ y) q.1) in
    (ref_byte_leads s.nullable).0 (subst LeadsShort same (short_leads c a r.heap_type p.1))

pub ref_prefix_code : PrefixCode EncodesRefType
ref_prefix_code a b x y r s (inl p) (inl q) e =
    let t = short_prefix_code a b x y r.heap_type s.heap_type p.1 q.1 e in
    (t.0, same_reference r s (p.0 ∙ sym q.0) t.1)
ref_prefix_code a b x y r s (inl p) (inr q) e = absurd (short_long a b x y r s p q e)
ref_prefix_code a b x y r s (inr p) (inl q) e = absurd (short_long b a y x s r q p (sym e))
ref_prefix_code a b x y r s (inr (a2, ea, p)) (inr (b2, eb, q)) e =
    let both : ref_byte r.nullable ∷ (a2 ++ x) ≡ ref_byte s.nullable ∷ (b2 ++ y) = sym (ap (λ z. z ++ x) ea) ∙ e ∙ ap (λ z. z ++ y) eb in
    let code : ref_byte r.nullable ≡ ref_byte s.nullable = cc both in
    let t = heap_prefix_code a2 b2 x y r.heap_type s.heap_type p q (cc both) in
    (ea ∙ ap (λ z. z ∷ a2) code ∙ ap (λ z. ref_byte s.nullable ∷ z) t.0 ∙ sym eb, same_reference r s (ref_byte_injective r.nullable s.nullable code) t.1)

number_byte : ValType → ℕ
number_byte value.I32 = 127
number_byte value.I64 = 126
number_byte value.F32 = 125
number_byte value.F64 = 124
number_byte _ = 123

number_at : ℕ → ValType
number_at n = if n == 127 then value.I32 else if n == 126 then value.I64 else if n == 125 then value.F32 else if n == 124 then value.F64 else value.V128

number_text : (text : List ℕ) (v : ValType) → EncodesNumberType text v → (text ≡ number_byte v ∷ []) × (v ≡ number_at (number_byte v))
unfolding number_byte number_at
number_text text value.I32 e = (e, refl)
number_text text value.I64 e = (e, refl)
number_text text value.F32 e = (e, refl)
number_text text value.F64 e = (e, refl)
number_text text value.V128 e = (e, refl)
number_text text (value.Ref r) e = absurd e

number_prefix_code : PrefixCode EncodesNumberType
number_prefix_code a b x y v w p q e =
    let s = number_text a v p in
    let t = number_text b w q in
    let same : number_byte v ≡ number_byte w = cc (ap (λ z. z ++ x) s.0, ap (λ z. z ++ y) t.0, e) in
    (s.0 ∙ ap (λ z. z ∷ []) same ∙ sym t.0, s.1 ∙ ap number_at same ∙ sym t.1)

number_far : (c : ℕ) (a : List ℕ) (v : ValType) → EncodesNumberType (c ∷ a) v → LeadsRefType c → ⊥
number_far c a v p l = (let low = number_leads c a v p in omega (arith, l.1))

plain_prefix_code : (c d : ℕ) (a b x y : List ℕ) (v w : ValType) → EncodesNumberType (c ∷ a) v → EncodesValType (d ∷ b) w → (c ∷ a) ++ x ≡ (d ∷ b) ++ y →
    (c ∷ a ≡ d ∷ b) × (v ≡ w)
plain_prefix_code c d a b x y v w p q e =
    let same : c ≡ d = cc e in
    number_prefix_code (c ∷ a) (d ∷ b) x y v w p (value_number d (subst (λ z. LeadsRefType z → ⊥) same (number_far c a v p)) b w q) e

pub value_prefix_code : PrefixCode EncodesValType
value_prefix_code [] b x y v w p q e = absurd (value_empty v p)
value_prefix_code (c ∷ a) [] x y v w p q e = absurd (value_empty w q)
value_prefix_code (c ∷ a) (d ∷ b) x y (value.Ref r) w p q e =
    let same : c ≡ d = cc e in
    let s = value_is_ref d (subst LeadsRefType same (ref_leads c a r p)) b w q in
    let t = ref_prefix_code (c ∷ a) (d ∷ b) x y r s.0 p s.2 e in
    (t.0, ap value.Ref t.1 ∙ sym s.1)
value_prefix_code (c ∷ a) (d ∷ b) x y value.I32 w p q e = plain_prefix_code c d a b x y value.I32 w p q e
value_prefix_code (c ∷ a) (d ∷ b) x y value.I64 w p q e = plain_prefix_code c d a b x y value.I64 w p q e
value_prefix_code (c ∷ a) (d ∷ b) x y value.F32 w p q e = plain_prefix_code c d a b x y value.F32 w p q e
value_prefix_code (c ∷ a) (d ∷ b) x y value.F64 w p q e = plain_prefix_code c d a b x y value.F64 w p q e
value_prefix_code (c ∷ a) (d ∷ b) x y value.V128 w p q e = plain_prefix_code c d a b x y value.V128 w p q e
