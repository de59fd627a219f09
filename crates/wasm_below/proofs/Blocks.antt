use Rattle.std.proofs.Common.{◌≡◌, ℕ, ◌+◌, ◌-◌, ◌<◌, ◌≤◌, List, [], ◌++◌, length, take, drop, Err, refl, sym, subst, ap, ◌∙◌, append_assoc, length-append, length-drop, arith}
use Rattle.std.proofs.lemmas.List.{take-append-drop, drop-drop, length-take-le, append-nil}
use Rattle.wasm_below.specs.declared.error.Error.{Error}
use Rattle.wasm_below.specs.declared.message.Message.{Message}
use Rattle.wasm_below.specs.declared.message.Message.TheVariants as message
use Rattle.wasm_below.specs.declared.message.SizeName.{SizeName}
use Rattle.wasm_below.specs.Refusal.{IsReadFault}
use Rattle.wasm_below.specs.Number.{EncodesUnsigned, EncodesSize}
use Rattle.wasm_below.specs.Source.{Reader, rest, offset_of, at_position, Takes, NoPrefix, MayFollow, IsRefusal, HasRead, Reads, IsShort, U32Fault, CountFault}
use Rattle.wasm_below.proofs.TakesLemmas.{back}
use Rattle.wasm_below.proofs.PrefixCode.{unsigned_prefix_code}

pub short_refused : {X : Type 0} (Encodes : List ℕ → X → Type 0) (n : ℕ) (e : Error) (r : Reader) →
    ((text : List ℕ) (x : X) → Encodes text x → length text ≡ n) → r.position ≤ length r.buffer → IsShort n e r → IsRefusal Encodes e r
short_refused Encodes n e r sized le h =
    record {
      refuses = λ more follow text after x p eq. (
          let none : more ≡ [] = subst (λ m. MayFollow m more) h.0 follow in
          let left : length (rest r) ≡ length r.buffer - r.position = length-drop r.position r.buffer in
          let whole : length (rest r) + length more ≡ length text + length after = sym (length-append (rest r) more) ∙ ap length eq ∙
          length-append text after in
          let zero : length more ≡ 0 = ap length none in
          let size : length text ≡ n = sized text x p in
          let few : r.start + length r.buffer < r.start + r.position + n = h.2 in
          omega arith
          );
      fault = subst IsReadFault (sym h.0) tt;
      ahead = (let at : e.offset ≡ offset_of r = h.1 in (omega arith, omega arith));
    }

pub takes_block : (old new : Reader) (n m : ℕ) → m ≡ n → n ≤ length (rest old) → new ≡ at_position old (old.position + n) →
    (length (take m (rest old)) ≡ n) × Takes old new (take m (rest old))
takes_block old new n m same fits moved =
    let size : length (take m (rest old)) ≡ n = length-take-le m (rest old) (omega arith) ∙ same in (
      size,
      record {
        moved = moved ∙ ap (λ k. at_position old (old.position + k)) (sym size);
        parts = sym (take-append-drop m (rest old)) ∙
            ap (λ z. take m (rest old) ++ z) (drop-drop m old.position old.buffer ∙ ap (λ k. drop (old.position + k) old.buffer) same ∙ sym (ap rest moved));
      },
    )

no_size : (text after more : List ℕ) (limit n : ℕ) → EncodesUnsigned 32 text n → limit < n → NoPrefix (EncodesSize limit) ((text ++ after) ++ more)
no_size text after more limit n p over t2 more2 k q e =
    let same : n ≡ k = (unsigned_prefix_code text t2 32 (after ++ more) more2 n k p q.0 (sym (append_assoc text after more) ∙ e)).1 in
    omega (arith, q.1)

pub size_refused : (name : SizeName) (limit n : ℕ) (e : Error) (old mid new : Reader) (position : ℕ) → HasRead (EncodesUnsigned 32) n old mid → limit < n →
    position ≡ old.position → position ≤ length old.buffer → new ≡ at_position mid position → e.offset ≡ mid.start + position →
    e.message ≡ message.SizeOutOfBounds name → Reads (EncodesSize limit) (CountFault name limit) (Err e) old new
size_refused name limit n e old mid new position (text, p, takes) over same le went offset is =
    let start : mid.start ≡ old.start = ap (λ (r : Reader). r.start) takes.moved in (
      back old mid new text position takes same went,
      record {
        refuses = λ more _. subst (λ z. NoPrefix (EncodesSize limit) (z ++ more)) (sym takes.parts) (no_size text (rest mid) more limit n p over);
        fault = subst IsReadFault (sym is) tt;
        ahead = (omega (arith, offset, same, start), omega (arith, offset, same, start));
      },
      subst (λ m. CountFault name limit m old e.offset) (sym is) ((omega (arith, offset, same, start), (text, rest mid, n, p, over, takes.parts)), refl, tt),
    )

pub count_fault : (m : Message) (name : SizeName) (limit : ℕ) (r : Reader) (offset : ℕ) → U32Fault m r offset →
    NoPrefix (EncodesUnsigned 32) (rest r) → CountFault name limit m r offset
count_fault (message.SizeOutOfBounds _) name limit r offset h none = absurd h.0
count_fault m name limit r offset h none = ((h.0, none), tt, h.1)

ends_here : (m : Message) → IsReadFault m → MayFollow m []
ends_here message.EndOfData h = refl
ends_here message.OutOfMemory h = absurd h
ends_here m h = tt

pub refused_now : {X : Type 0} (Encodes : List ℕ → X → Type 0) (e : Error) (r : Reader) → IsRefusal Encodes e r → NoPrefix Encodes (rest r)
refused_now Encodes e r h = subst (NoPrefix Encodes) (append-nil (rest r)) (h.refuses [] (ends_here e.message h.fault))

pub count_refused : (name : SizeName) (limit : ℕ) (e : Error) (old new : Reader) → Reads (EncodesUnsigned 32) U32Fault (Err e) old new →
    Reads (EncodesSize limit) (CountFault name limit) (Err e) old new
count_refused name limit e old new (same, h, f) = (
  same,
  record { refuses = λ more follow text after n p. h.refuses more follow text after n p.0; fault = h.fault; ahead = h.ahead },
  count_fault e.message name limit old e.offset f (refused_now (EncodesUnsigned 32) e old h),
)
