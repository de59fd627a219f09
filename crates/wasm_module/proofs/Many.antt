-- Values of one kind, as a loop reads them, and lists of which only the length is kept.
use Rattle.std.proofs.Common.{◌≡◌, ℕ, zero, suc, ◌+◌, ◌<◌, ◌≤◌, List, [], inl, inr, refl, sym, subst, ◌∙◌, arith}
use Rattle.wasm_below.specs.declared.error.Error.{Error}
use Rattle.wasm_below.specs.declared.message.Message.{Message}
use Rattle.wasm_below.specs.Fault.{ManyFault, DeterminesRefusal}
use Rattle.wasm_below.specs.Number.{EncodesUnsigned}
use Rattle.wasm_below.specs.Sequence.{PrefixCode}
use Rattle.wasm_below.specs.Source.{Reader, IsRefusal, HasRead, U32Fault}
use Rattle.wasm_below.specs.Ahead.{Fails}
use Rattle.wasm_module.specs.Types.{IsMany, EncodesCounted, EncodesLength, LengthFault}
use Rattle.wasm_below.proofs.Ahead.{fails_as}
use Rattle.wasm_below.proofs.Blocks.{refused_now}
use Rattle.wasm_below.proofs.DeterminedRefusals.{then_determines}
use Rattle.wasm_below.proofs.Sequences.{then_first, then_second, then_prefix_code}
use Rattle.wasm_below.proofs.TakesLemmas.{takes_none}
use Rattle.wasm_module.proofs.Sequences.{then_read}

-- Some of the values were read, and what holds for those that are left holds for all.
pub record IsOnTheWay {X : Type 0} (P : List ℕ → X → Type 0) (Fault : Message → Reader → ℕ → Type 0) (count i : ℕ) (old now : Reader) : Type 0 where
  pub left : ℕ
  pub all : i + left ≡ count
  pub read : (new : Reader) → HasRead (IsMany P left) tt now new → HasRead (IsMany P count) tt old new
  pub refused : (e : Error) → IsRefusal (IsMany P left) e now → IsRefusal (IsMany P count) e old
  pub fault : (m : Message) (offset : ℕ) → ManyFault P Fault left m now offset → ManyFault P Fault count m old offset

module _ {X : Type 0} (P : List ℕ → X → Type 0) (Fault : Message → Reader → ℕ → Type 0) where
  pub way_begins : (count : ℕ) (old : Reader) → IsOnTheWay P Fault count 0 old old
  way_begins count old =
      record {
        left = count;
        all = omega arith;
        read = λ new h. h;
        refused = λ e h. h;
        fault = λ m offset h. h;
      }

  one_less : (count i left : ℕ) → i + left ≡ count → i < count → (k : ℕ) × (left ≡ suc k)
  one_less count i zero all more = absurd (omega (arith, all, more))
  one_less count i (suc k) all more = (k, refl)

  abbrev Left : ℕ → ℕ → Reader → Reader → Type 0
  Left count left old now =
      ((new : Reader) → HasRead (IsMany P left) tt now new → HasRead (IsMany P count) tt old new)
      × ((e : Error) → IsRefusal (IsMany P left) e now → IsRefusal (IsMany P count) e old)
      × ((m : Message) (offset : ℕ) → ManyFault P Fault left m now offset → ManyFault P Fault count m old offset)

  left_at : (count i : ℕ) (old now : Reader) (w : IsOnTheWay P Fault count i old now) (k : ℕ) → w.left ≡ k → Left count k old now
  left_at count i old now w k same = subst (λ n. Left count n old now) same (w.read, w.refused, w.fault)

  pub way_goes_on : PrefixCode P → (count i : ℕ) (old now new : Reader) (x : X) → i < count → IsOnTheWay P Fault count i old now → HasRead P x now new →
      IsOnTheWay P Fault count (i + 1) old new
  way_goes_on code count i old now new x more w h =
      let less = one_less count i w.left w.all more in
      let k = less.0 in
      let here = left_at count i old now w (suc k) less.1 in
      let all = w.all in
      let same = less.1 in
      record {
        left = k;
        all = omega (arith, all, same);
        read = λ last q. here.0 last (then_read P (λ v. IsMany P k) h q);
        refused = λ e q. here.1 e (then_second P (λ v. IsMany P k) e now new x code h q);
        fault = λ m offset f. here.2 m offset (inr (x, new, h, f));
      }

  pub way_ends : (count i : ℕ) (old now : Reader) → count ≤ i → IsOnTheWay P Fault count i old now → HasRead (EncodesCounted P count) count old now
  way_ends count i old now none w =
      let all = w.all in
      let here = left_at count i old now w zero (omega (arith, all, none)) in
      let whole = here.0 now ([], refl, takes_none now) in
      (whole.0, (refl, whole.1), whole.2)

  pub way_refused : (count i : ℕ) (old now : Reader) → i < count → IsOnTheWay P Fault count i old now → {e : Error} → Fails P Fault e now →
      Fails (EncodesCounted P count) (ManyFault P Fault count) e old
  way_refused count i old now more w {e} h =
      let less = one_less count i w.left w.all more in
      let here = left_at count i old now w (suc less.0) less.1 in
      fails_as (IsMany P count) (EncodesCounted P count) (ManyFault P Fault count) (ManyFault P Fault count) (λ text n b. (tt, b.1)) (λ f. f)
      (here.1 e (then_first P (λ v. IsMany P less.0) e now h.0), here.2 e.message e.offset (inl (refused_now P e now h.0, h.1)))

  module _ (code : PrefixCode P) where
    many_code : (n : ℕ) → PrefixCode (IsMany P n)
    many_code zero = λ a b x y m k p q e. (p ∙ sym q, refl)
    many_code (suc n) = then_prefix_code P (λ v. IsMany P n) code (λ v. many_code n)

    counted_code : (count : ℕ) → PrefixCode (EncodesCounted P count)
    counted_code count a b x y m n p q e = ((many_code count a b x y tt tt p.1 q.1 e).0, p.0 ∙ sym q.0)

    pub length_code : PrefixCode (EncodesUnsigned 32) → PrefixCode (EncodesLength P)
    length_code numbers = then_prefix_code (EncodesUnsigned 32) (EncodesCounted P) numbers counted_code

    many_determines : DeterminesRefusal Fault → (n : ℕ) → DeterminesRefusal (ManyFault P Fault n)
    many_determines item zero = λ m k r a b p q. absurd p
    many_determines item (suc n) = then_determines P Fault (λ v. ManyFault P Fault n) code item (λ v. many_determines item n)

    pub length_determines : PrefixCode (EncodesUnsigned 32) → DeterminesRefusal U32Fault → DeterminesRefusal Fault → DeterminesRefusal (LengthFault P Fault)
    length_determines numbers small item = then_determines (EncodesUnsigned 32) U32Fault (ManyFault P Fault) numbers small (many_determines item)
