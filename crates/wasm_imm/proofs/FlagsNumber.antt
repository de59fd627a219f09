-- What a flags number announces, and the parts that it is the sum of.
use Rattle.std.proofs.Common.{◌≡◌, ◌≢◌, ℕ, ◌+◌, ◌*◌, ◌/◌, ◌%◌, ◌<◌, ◌≤◌, ◌⊎◌, inl, inr, List, [], ◌∷◌, ◌++◌, Option, Some, None, refl, sym, subst, ap, ◌∙◌, arith}
use Rattle.wasm_below.specs.declared.features.WasmFeatures.{WasmFeatures}
use Rattle.wasm_below.specs.declared.error.Error.{Error}
use Rattle.wasm_below.specs.Features.{HasFeature, multi_memory, acquire_release_atomics, multibyte_array_access}
use Rattle.wasm_below.specs.Number.{EncodesUnsigned}
use Rattle.wasm_below.specs.Refusal.{IsReadFault}
use Rattle.wasm_below.specs.Source.{Reader, offset_of, IsRefusal, HasRead}
use Rattle.wasm_below.specs.Sequence.{Then, PrefixCode}
use Rattle.wasm_below.proofs.PrefixCode.{unsigned_prefix_code}
use Rattle.wasm_below.proofs.TakesLemmas.{takes_then, takes_none}
use Rattle.wasm_below.proofs.Sequences.{then_first, then_second, then_prefix_code, refuses_by}
use Rattle.wasm_below.proofs.Steps.{number_prefix_code, unsigned_some, first_rules_out}
use Rattle.wasm_imm.specs.declared.memory_argument.MemArg.{MemArg}
use Rattle.wasm_imm.specs.declared.memory_argument.MemArgTarget.{MemArgTarget}
use Rattle.wasm_imm.specs.declared.memory_argument.MemArgTarget.TheVariants as target
use Rattle.wasm_imm.specs.declared.memory_argument.MemArgOrdering.{MemArgOrdering}
use Rattle.wasm_imm.specs.declared.memory_argument.MemArgOrdering.TheVariants as ordering
use Rattle.wasm_imm.specs.declared.memory_argument.MemArgKind.{MemArgKind}
use Rattle.wasm_imm.specs.declared.memory_argument.MemArgKind.TheVariants as kind
use Rattle.wasm_imm.specs.declared.ordering.Ordering.{Ordering}
use Rattle.wasm_imm.specs.declared.ordering.Ordering.TheVariants.{AcqRel, SeqCst}
use Rattle.wasm_imm.specs.MemoryArgument.{ordering_byte, rmw_byte, IsOrderingByte, EncodesTarget, EncodesOrdering, EncodesOffset, EncodesAfterFlags, EncodesMemArg}
use Rattle.wasm_imm.specs.FlagsNumber.{NamesBoth, OrdersPlain, Announces, IsReserved, IsTarget, IsOrdering}

pub part_of_target : (f : WasmFeatures) (part : ℕ) (text : List ℕ) (t : MemArgTarget) → EncodesTarget f part text t → (part ≡ 0) ⊎ (part ≡ 32) ⊎ (part ≡ 64)
part_of_target f part text (target.Array i) s = inr (inl s.1)
part_of_target f part text (target.Memory i) (inl s) = inr (inr s.1)
part_of_target f part text (target.Memory i) (inr s) = inl s.0

pub part_of_ordering : (f : WasmFeatures) (k : MemArgKind) (part : ℕ) (text : List ℕ) (o : Option MemArgOrdering) → EncodesOrdering f k part text o →
    (part ≡ 0) ⊎ (part ≡ 16)
part_of_ordering f k part text None s = inl s.0
part_of_ordering f k part text (Some o) s = inr s.1

target_is : (f : WasmFeatures) (flags align po pt : ℕ) (text : List ℕ) (t : MemArgTarget) → EncodesTarget f pt text t → flags ≡ align + po + pt → align ≤ 15 →
    po ≤ 16 → IsTarget f flags text t
target_is f flags align po pt text (target.Array i) (has, part, s) sum al le = (λ h. absurd (omega (arith, h.1)), (has, omega arith), s)
target_is f flags align po pt text (target.Memory i) (inl (has, part, s)) sum al le = inl ((has, omega arith), s)
target_is f flags align po pt text (target.Memory i) (inr (part, nil, zero)) sum al le =
    inr (λ h. absurd (omega (arith, h.1)), λ h. absurd (omega (arith, h.1)), nil, zero)

ordering_is : (f : WasmFeatures) (k : MemArgKind) (flags align po j : ℕ) (text : List ℕ) (o : Option MemArgOrdering) → EncodesOrdering f k po text o →
    flags ≡ align + po + 32 * j → align ≤ 15 → IsOrdering f k flags text o
ordering_is f k flags align po j text None (part, nil) sum al = (λ h. absurd (omega (arith, h.1)), nil)
ordering_is f k flags align po j text (Some o) (has, part, byte, e, is) sum al = ((has, omega arith), byte, e, is)

halves : (part : ℕ) → (part ≡ 0) ⊎ (part ≡ 32) ⊎ (part ≡ 64) → (j : ℕ) × (part ≡ 32 * j) × (j ≤ 2)
halves part (inl e) = (0, omega arith, omega arith)
halves part (inr (inl e)) = (1, omega arith, omega arith)
halves part (inr (inr e)) = (2, omega arith, omega arith)

at_most_16 : (part : ℕ) → (part ≡ 0) ⊎ (part ≡ 16) → part ≤ 16
at_most_16 part (inl e) = omega arith
at_most_16 part (inr e) = omega arith

sixteens : (part : ℕ) → (part ≡ 0) ⊎ (part ≡ 16) → (i : ℕ) × (part ≡ 16 * i)
sixteens part (inl e) = (0, omega arith)
sixteens part (inr e) = (1, omega arith)

low : (flags align po j : ℕ) → flags ≡ align + po + 32 * j → align ≤ 15 → (i : ℕ) × (po ≡ 16 * i) → align ≡ flags % 16
low flags align po j sum al (i, e) = omega arith

abbrev pub argument_of : ℕ → ℕ → ℕ → MemArgTarget → Option MemArgOrdering → MemArg
argument_of align max offset t o = record { align = align; max_align = max; offset = offset; target = t; ordering = o }

abbrev pub Last : WasmFeatures → ℕ → ℕ → MemArgTarget → Option MemArgOrdering → List ℕ → MemArg → Type 0
Last f max flags t o text m = EncodesOffset f text m.offset × (m ≡ argument_of (flags % 16) max m.offset t o)

abbrev pub Stages : WasmFeatures → MemArgKind → ℕ → ℕ → List ℕ → MemArg → Type 0
Stages f k max flags = Then (IsTarget f flags) (λ t. Then (IsOrdering f k flags) (Last f max flags t))

from_parts : (m : MemArg) (align max : ℕ) → m.align ≡ align → m.max_align ≡ max → m ≡ argument_of align max m.offset m.target m.ordering
from_parts m align max ea em = ap (λ a. argument_of a m.max_align m.offset m.target m.ordering) ea ∙
    ap (λ x. argument_of align x m.offset m.target m.ordering) em

pub to_stages : (f : WasmFeatures) (k : MemArgKind) (max flags : ℕ) (text : List ℕ) (m : MemArg) → EncodesAfterFlags f k max flags text m →
    Stages f k max flags text m
to_stages f k max flags text m b =
    let h = halves b.of_target (part_of_target f b.of_target b.index m.target b.target) in
    let le = at_most_16 b.of_ordering (part_of_ordering f k b.of_ordering b.byte m.ordering b.ordering) in
    let split = sixteens b.of_ordering (part_of_ordering f k b.of_ordering b.byte m.ordering b.ordering) in
    let sum : flags ≡ m.align + b.of_ordering + 32 * h.0 = omega (arith, b.sum, h.1) in (
      b.index,
      b.byte ++ b.after,
      m.target,
      b.parts,
      target_is f flags m.align b.of_ordering b.of_target b.index m.target b.target b.sum b.align le,
      (
        b.byte,
        b.after,
        m.ordering,
        refl,
        ordering_is f k flags m.align b.of_ordering h.0 b.byte m.ordering b.ordering sum b.align,
        (b.offset, from_parts m (flags % 16) max (low flags m.align b.of_ordering h.0 sum b.align split) b.max_align),
      ),
    )

pub target_prefix_code : (f : WasmFeatures) (flags : ℕ) → PrefixCode (IsTarget f flags)
target_prefix_code f flags a b x y (target.Array i) (target.Array j) p q e = let o = unsigned_prefix_code a b 32 x y i j p.2 q.2 e in
    (o.0, ap target.Array o.1)
target_prefix_code f flags a b x y (target.Array i) (target.Memory j) p (inl q) e = absurd (p.0 q.0)
target_prefix_code f flags a b x y (target.Array i) (target.Memory j) p (inr q) e = absurd (q.1 p.1)
target_prefix_code f flags a b x y (target.Memory i) (target.Array j) (inl p) q e = absurd (q.0 p.0)
target_prefix_code f flags a b x y (target.Memory i) (target.Array j) (inr p) q e = absurd (p.1 q.1)
target_prefix_code f flags a b x y (target.Memory i) (target.Memory j) (inl p) (inl q) e = let o = unsigned_prefix_code a b 32 x y i j p.1 q.1 e in
    (o.0, ap target.Memory o.1)
target_prefix_code f flags a b x y (target.Memory i) (target.Memory j) (inl p) (inr q) e = absurd (q.0 p.0)
target_prefix_code f flags a b x y (target.Memory i) (target.Memory j) (inr p) (inl q) e = absurd (p.0 q.0)
target_prefix_code f flags a b x y (target.Memory i) (target.Memory j) (inr p) (inr q) e = (p.2 ∙ sym q.2, ap target.Memory (p.3 ∙ sym q.3))

pub lone_byte_injective : (o p : Ordering) (b : ℕ) → b ≡ ordering_byte o → b ≡ ordering_byte p → o ≡ p
lone_byte_injective SeqCst SeqCst b e f = refl
lone_byte_injective SeqCst AcqRel b e f = absurd (omega arith)
lone_byte_injective AcqRel SeqCst b e f = absurd (omega arith)
lone_byte_injective AcqRel AcqRel b e f = refl

rmw_byte_injective : (o p : Ordering) (b : ℕ) → b ≡ rmw_byte o → b ≡ rmw_byte p → o ≡ p
rmw_byte_injective SeqCst SeqCst b e f = refl
rmw_byte_injective SeqCst AcqRel b e f = absurd (omega arith)
rmw_byte_injective AcqRel SeqCst b e f = absurd (omega arith)
rmw_byte_injective AcqRel AcqRel b e f = refl

ordering_byte_prefix_code : (k : MemArgKind) (b : ℕ) (o p : MemArgOrdering) → IsOrderingByte k b o → IsOrderingByte k b p → o ≡ p
ordering_byte_prefix_code k b (ordering.Op o) (ordering.Op p) h i = ap ordering.Op (lone_byte_injective o p b h.1 i.1)
ordering_byte_prefix_code k b (ordering.Op o) (ordering.Rmw p) h i = let e : kind.Op ≡ kind.Rmw = sym h.0 ∙ i.0 in absurd (cc e)
ordering_byte_prefix_code k b (ordering.Rmw o) (ordering.Op p) h i = let e : kind.Rmw ≡ kind.Op = sym h.0 ∙ i.0 in absurd (cc e)
ordering_byte_prefix_code k b (ordering.Rmw o) (ordering.Rmw p) h i = ap ordering.Rmw (rmw_byte_injective o p b h.1 i.1)

pub ordering_prefix_code : (f : WasmFeatures) (k : MemArgKind) (flags : ℕ) → PrefixCode (IsOrdering f k flags)
ordering_prefix_code f k flags a b x y None None p q e = (p.1 ∙ sym q.1, refl)
ordering_prefix_code f k flags a b x y None (Some n) p q e = absurd (p.0 q.0)
ordering_prefix_code f k flags a b x y (Some m) None p q e = absurd (q.0 p.0)
ordering_prefix_code f k flags a b x y (Some m) (Some n) (_, c, ec, p) (_, d, ed, q) e =
    let whole : c ∷ x ≡ d ∷ y = ap (λ z. z ++ x) (sym ec) ∙ e ∙ ap (λ z. z ++ y) ed in
    let same : c ≡ d = cc whole in
    (ec ∙ ap (λ z. z ∷ []) same ∙ sym ed, ap Some (ordering_byte_prefix_code k c m n p (subst (λ z. IsOrderingByte k z n) (sym same) q)))

pub offset_prefix_code : (f : WasmFeatures) → PrefixCode (EncodesOffset f)
offset_prefix_code f a b x y m n (inl p) (inl q) e = unsigned_prefix_code a b 64 x y m n p.1 q.1 e
offset_prefix_code f a b x y m n (inl p) (inr q) e = absurd (q.0 p.0)
offset_prefix_code f a b x y m n (inr p) (inl q) e = absurd (p.0 q.0)
offset_prefix_code f a b x y m n (inr p) (inr q) e = unsigned_prefix_code a b 32 x y m n p.1 q.1 e

last_prefix_code : (f : WasmFeatures) (max flags : ℕ) (t : MemArgTarget) (o : Option MemArgOrdering) → PrefixCode (Last f max flags t o)
last_prefix_code f max flags t o a b x y m n p q e =
    let h = offset_prefix_code f a b x y m.offset n.offset p.0 q.0 e in
    (h.0, p.1 ∙ ap (λ z. argument_of (flags % 16) max z t o) h.1 ∙ sym q.1)

pub memarg_prefix_code : (f : WasmFeatures) (k : MemArgKind) (max : ℕ) → PrefixCode (EncodesMemArg f k max)
memarg_prefix_code f k max =
    then_prefix_code (EncodesUnsigned 32) (EncodesAfterFlags f k max) (number_prefix_code 32)
    (λ flags a b x y m n p q e. stages flags a b x y m n (to_stages f k max flags a m p) (to_stages f k max flags b n q) e)
  where
    stages : (flags : ℕ) → PrefixCode (Stages f k max flags)
    stages flags = then_prefix_code (IsTarget f flags) (λ t. Then (IsOrdering f k flags) (Last f max flags t)) (target_prefix_code f flags)
        (λ t. then_prefix_code (IsOrdering f k flags) (Last f max flags t) (ordering_prefix_code f k flags) (last_prefix_code f max flags t))

abbrev pub NotAfterFlags : WasmFeatures → MemArgKind → ℕ → ℕ → Type 0
NotAfterFlags f k max flags = (text : List ℕ) (m : MemArg) → ¬ EncodesAfterFlags f k max flags text m

pub both_ruled_out : (f : WasmFeatures) (k : MemArgKind) (max flags : ℕ) → NamesBoth f flags → NotAfterFlags f k max flags
both_ruled_out f k max flags h text m b =
    let j = halves b.of_target (part_of_target f b.of_target b.index m.target b.target) in
    let le = at_most_16 b.of_ordering (part_of_ordering f k b.of_ordering b.byte m.ordering b.ordering) in
    absurd (omega (arith, b.sum, j.1, j.2, b.align, h.0.1, h.1))

plain_has_none : (f : WasmFeatures) (k : MemArgKind) (flags : ℕ) (text : List ℕ) (o : Option MemArgOrdering) → OrdersPlain f k flags →
    ¬ IsOrdering f k flags text o
plain_has_none f k flags text None h i = i.0 h.1
plain_has_none f k flags text (Some (ordering.Op o)) h (_, byte, _, is) = let e : kind.Plain ≡ kind.Op = sym h.0 ∙ is.0 in absurd (cc e)
plain_has_none f k flags text (Some (ordering.Rmw o)) h (_, byte, _, is) = let e : kind.Plain ≡ kind.Rmw = sym h.0 ∙ is.0 in absurd (cc e)

pub plain_ruled_out : (f : WasmFeatures) (k : MemArgKind) (max flags : ℕ) → OrdersPlain f k flags → NotAfterFlags f k max flags
plain_ruled_out f k max flags h text m b = let s = to_stages f k max flags text m b in plain_has_none f k flags s.5.0 s.5.2 h s.5.4

has_memory : (f : WasmFeatures) (part : ℕ) (text : List ℕ) (t : MemArgTarget) → EncodesTarget f part text t → part ≡ 64 → HasFeature multi_memory f
has_memory f part text (target.Array i) s e = absurd (omega (arith, s.1))
has_memory f part text (target.Memory i) (inl s) e = s.0
has_memory f part text (target.Memory i) (inr s) e = absurd (omega (arith, s.0))

has_array : (f : WasmFeatures) (part : ℕ) (text : List ℕ) (t : MemArgTarget) → EncodesTarget f part text t → part ≡ 32 → HasFeature multibyte_array_access f
has_array f part text (target.Array i) s e = s.0
has_array f part text (target.Memory i) (inl s) e = absurd (omega (arith, s.1))
has_array f part text (target.Memory i) (inr s) e = absurd (omega (arith, s.0))

has_ordering : (f : WasmFeatures) (k : MemArgKind) (part : ℕ) (text : List ℕ) (o : Option MemArgOrdering) → EncodesOrdering f k part text o → part ≢ 0 →
    HasFeature acquire_release_atomics f
has_ordering f k part text None s e = absurd (e s.0)
has_ordering f k part text (Some o) s e = s.0

pub reserved_ruled_out : (f : WasmFeatures) (k : MemArgKind) (max flags : ℕ) → IsReserved f flags → NotAfterFlags f k max flags
reserved_ruled_out f k max flags h text m b =
    let j = halves b.of_target (part_of_target f b.of_target b.index m.target b.target) in
    let le = at_most_16 b.of_ordering (part_of_ordering f k b.of_ordering b.byte m.ordering b.ordering) in
    let sum : flags ≡ m.align + b.of_ordering + 32 * j.0 = omega (arith, b.sum, j.1) in
    by_case b.of_target b.of_ordering m.align j.0 sum b.align le j.1 j.2 (has_memory f b.of_target b.index m.target b.target)
    (has_array f b.of_target b.index m.target b.target) (has_ordering f k b.of_ordering b.byte m.ordering b.ordering) h
  where
    by_case : (pt po align j : ℕ) → flags ≡ align + po + 32 * j → align ≤ 15 → po ≤ 16 → pt ≡ 32 * j → j ≤ 2 → (pt ≡ 64 → HasFeature multi_memory f) →
        (pt ≡ 32 → HasFeature multibyte_array_access f) → (po ≢ 0 → HasFeature acquire_release_atomics f) → IsReserved f flags → ⊥
    by_case pt po align j sum al pl is jl hm ha ho (inl r) = absurd (omega arith)
    by_case pt po align j sum al pl is jl hm ha ho (inr (inl r)) = r.1 (hm (omega (arith, r.0)))
    by_case pt po align j sum al pl is jl hm ha ho (inr (inr (inl r))) = r.1 (ha (omega (arith, r.0)))
    by_case pt po align j sum al pl is jl hm ha ho (inr (inr (inr r))) = r.1 (ho (λ e. absurd (omega (arith, r.0))))

no_bit : (f feature : WasmFeatures) (bit : Type 0) → ¬ (bit × ¬ HasFeature feature f) → ¬ (HasFeature feature f × bit) → ¬ bit
no_bit f feature bit meant unset h = meant (h, λ has. unset (has, h))

small_flags : (f : WasmFeatures) (flags : ℕ) → ¬ IsReserved f flags → flags < 128
small_flags f flags nr = omega (arith, below 128 flags (λ h. nr (inl h)))
  where
    below : (m n : ℕ) → ¬ (m ≤ n) → n < m
    below m n h = omega arith

target_part : (f : WasmFeatures) (flags : ℕ) (text : List ℕ) (t : MemArgTarget) → IsTarget f flags text t → ¬ IsReserved f flags → ¬ NamesBoth f flags →
    (part : ℕ) × EncodesTarget f part text t × (part ≡ 32 * (flags / 32))
target_part f flags text (target.Array i) (nm, a, s) nr nb =
    let small = small_flags f flags nr in
    let no64 : flags / 64 % 2 ≢ 1 = λ h. nb (a, h) in
    (32, (a.0, refl, s), omega (arith, a.1))
target_part f flags text (target.Memory i) (inl (m, s)) nr nb =
    let small = small_flags f flags nr in
    let no32 : flags / 32 % 2 ≢ 1 = λ h. nr (inr (inr (inl (h, λ has. nb ((has, h), m.1))))) in
    (64, inl (m.0, refl, s), omega (arith, m.1))
target_part f flags text (target.Memory i) (inr (nm, na, nil, zero)) nr nb =
    let small = small_flags f flags nr in
    let no64 : flags / 64 % 2 ≢ 1 = no_bit f multi_memory (flags / 64 % 2 ≡ 1) (λ h. nr (inr (inl h))) nm in
    let no32 : flags / 32 % 2 ≢ 1 = no_bit f multibyte_array_access (flags / 32 % 2 ≡ 1) (λ h. nr (inr (inr (inl h)))) na in
    (0, inr (refl, nil, zero), omega arith)

ordering_part : (f : WasmFeatures) (k : MemArgKind) (flags : ℕ) (text : List ℕ) (o : Option MemArgOrdering) → IsOrdering f k flags text o →
    ¬ IsReserved f flags → (part : ℕ) × EncodesOrdering f k part text o × (part ≡ 16 * (flags / 16 % 2))
ordering_part f k flags text None (none, nil) nr =
    let no16 : flags / 16 % 2 ≢ 1 = no_bit f acquire_release_atomics (flags / 16 % 2 ≡ 1) (λ h. nr (inr (inr (inr h)))) none in
    (0, (refl, nil), omega arith)
ordering_part f k flags text (Some o) (a, byte, e, is) nr = (16, (a.0, refl, byte, e, is), omega (arith, a.1))

in_parts : (flags : ℕ) → flags ≡ flags % 16 + 16 * (flags / 16 % 2) + 32 * (flags / 32)
in_parts flags = omega arith

pub after_ok : (f : WasmFeatures) (k : MemArgKind) (max flags : ℕ) (index byte after : List ℕ) (t : MemArgTarget) (o : Option MemArgOrdering) (offset : ℕ) →
    IsTarget f flags index t → IsOrdering f k flags byte o → EncodesOffset f after offset → ¬ IsReserved f flags → ¬ NamesBoth f flags →
    EncodesAfterFlags f k max flags (index ++ (byte ++ after)) (argument_of (flags % 16) max offset t o)
after_ok f k max flags index byte after t o offset ht ho hb nr nb =
    let pt = target_part f flags index t ht nr nb in
    let po = ordering_part f k flags byte o ho nr in
    record {
      of_ordering = po.0;
      of_target = pt.0;
      index = index;
      byte = byte;
      after = after;
      sum = omega (arith, in_parts flags, po.2, pt.2);
      parts = refl;
      align = omega arith;
      max_align = refl;
      target = pt.1;
      ordering = po.1;
      offset = hb;
    }

module _ (f : WasmFeatures) (k : MemArgKind) (max flags : ℕ) (old mid : Reader) (flagged : HasRead (EncodesUnsigned 32) flags old mid) where
  pub ruled_out : (e : Error) → e.offset ≡ offset_of old → IsReadFault e.message → NotAfterFlags f k max flags → IsRefusal (EncodesMemArg f k max) e old
  ruled_out e at fault none =
      (first_rules_out (EncodesUnsigned 32) (EncodesAfterFlags f k max) e old mid old flags (number_prefix_code 32) (λ text p. unsigned_some 32 text flags p)
      flagged none refl at fault).1

  after_refused : (e : Error) → IsRefusal (Stages f k max flags) e mid → IsRefusal (EncodesMemArg f k max) e old
  after_refused e h =
      then_second (EncodesUnsigned 32) (EncodesAfterFlags f k max) e old mid flags (number_prefix_code 32) flagged
      (refuses_by (Stages f k max flags) (EncodesAfterFlags f k max flags) e mid (λ text m b. (m, to_stages f k max flags text m b)) h)

  abbrev after_target : MemArgTarget → List ℕ → MemArg → Type 0
  after_target t = Then (IsOrdering f k flags) (Last f max flags t)

  pub target_refused : (e : Error) → IsRefusal (IsTarget f flags) e mid → IsRefusal (EncodesMemArg f k max) e old
  target_refused e h = after_refused e (then_first (IsTarget f flags) after_target e mid h)

  pub ordering_refused : (e : Error) (now : Reader) (t : MemArgTarget) → HasRead (IsTarget f flags) t mid now → IsRefusal (IsOrdering f k flags) e now →
      IsRefusal (EncodesMemArg f k max) e old
  ordering_refused e now t rt h =
      after_refused e (then_second (IsTarget f flags) after_target e mid now t (target_prefix_code f flags) rt
      (then_first (IsOrdering f k flags) (Last f max flags t) e now h))

  pub offset_refused : (e : Error) (now last : Reader) (t : MemArgTarget) (o : Option MemArgOrdering) → HasRead (IsTarget f flags) t mid now →
      HasRead (IsOrdering f k flags) o now last → IsRefusal (EncodesOffset f) e last → IsRefusal (EncodesMemArg f k max) e old
  offset_refused e now last t o rt ro h =
      let third = refuses_by (EncodesOffset f) (Last f max flags t o) e last (λ text m s. (m.offset, s.0)) h in
      after_refused e (then_second (IsTarget f flags) after_target e mid now t (target_prefix_code f flags) rt
      (then_second (IsOrdering f k flags) (Last f max flags t) e now last o (ordering_prefix_code f k flags) ro third))

  pub all_read : (now last new : Reader) (t : MemArgTarget) (o : Option MemArgOrdering) (offset : ℕ) → HasRead (IsTarget f flags) t mid now →
      HasRead (IsOrdering f k flags) o now last → HasRead (EncodesOffset f) offset last new → ¬ IsReserved f flags → ¬ NamesBoth f flags →
      HasRead (EncodesMemArg f k max) (argument_of (flags % 16) max offset t o) old new
  all_read now last new t o offset rt ro rb nr nb = (
    flagged.0 ++ (rt.0 ++ (ro.0 ++ rb.0)),
    (flagged.0, rt.0 ++ (ro.0 ++ rb.0), flags, refl, flagged.1, after_ok f k max flags rt.0 ro.0 rb.0 t o offset rt.1 ro.1 rb.1 nr nb),
    takes_then old mid new flagged.0 (rt.0 ++ (ro.0 ++ rb.0)) flagged.2
        (takes_then mid now new rt.0 (ro.0 ++ rb.0) rt.2 (takes_then now last new ro.0 rb.0 ro.2 rb.2)),
  )

none_announced : (f feature : WasmFeatures) (flags bit : ℕ) → flags / bit % 2 ≡ 0 → ¬ Announces f feature flags bit
none_announced f feature flags bit zero h = absurd (omega (arith, h.1))

module _ (f : WasmFeatures) (k : MemArgKind) (max flags : ℕ) (old mid : Reader) (flagged : HasRead (EncodesUnsigned 32) flags old mid) (small : flags < 16)
  where
    pub memory_zero : HasRead (IsTarget f flags) (target.Memory 0) mid mid
    memory_zero = (
      [],
      inr (none_announced f multi_memory flags 64 (omega arith), none_announced f multibyte_array_access flags 32 (omega arith), refl, refl),
      takes_none mid,
    )

    pub no_ordering : HasRead {X = Option MemArgOrdering} (IsOrdering f k flags) None mid mid
    no_ordering = ([], (none_announced f acquire_release_atomics flags 16 (omega arith), refl), takes_none mid)

    pub short_refused : (e : Error) → IsRefusal (EncodesOffset f) e mid → IsRefusal (EncodesMemArg f k max) e old
    short_refused e h = offset_refused f k max flags old mid flagged e mid mid (target.Memory 0) None memory_zero no_ordering h

    pub none_reserved : ¬ IsReserved f flags
    none_reserved (inl r) = absurd (omega arith)
    none_reserved (inr (inl r)) = absurd (omega (arith, r.0))
    none_reserved (inr (inr (inl r))) = absurd (omega (arith, r.0))
    none_reserved (inr (inr (inr r))) = absurd (omega (arith, r.0))

    pub short_read : (new : Reader) (offset align : ℕ) → align ≡ flags → HasRead (EncodesOffset f) offset mid new →
        HasRead (EncodesMemArg f k max) (argument_of align max offset (target.Memory 0) None) old new
    short_read new offset align same rb =
        let low : flags % 16 ≡ align = omega arith in
        subst (λ z. HasRead (EncodesMemArg f k max) (argument_of z max offset (target.Memory 0) None) old new) low
        (all_read f k max flags old mid flagged mid mid new (target.Memory 0) None offset memory_zero no_ordering rb none_reserved
        (λ h. absurd (omega (arith, h.1))))
