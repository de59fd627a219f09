-- Calls of several parts that go back if a later part fails.
use Rattle.std.proofs.Common.{◌≡◌, ℕ, ◌+◌, ◌-◌, ◌<◌, ◌≤◌, List, [], ◌∷◌, ◌++◌, length, Err, inl, inr, sym, subst, ap, ◌∙◌, length-append, length-drop, arith}
use Rattle.wasm_below.specs.declared.error.Error.{Error}
use Rattle.wasm_below.specs.declared.message.Message.{Message}
use Rattle.wasm_below.specs.Fault.{ThenFault}
use Rattle.wasm_below.specs.Refusal.{IsReadFault}
use Rattle.wasm_below.specs.Number.{EncodesUnsigned}
use Rattle.wasm_below.specs.Source.{Reader, rest, offset_of, end_of, at_position, Takes, NoPrefix, IsRefusal, HasRead, Reads}
use Rattle.wasm_below.specs.Sequence.{Then, PrefixCode}
use Rattle.wasm_below.proofs.PrefixCode.{unsigned_prefix_code}
use Rattle.wasm_below.proofs.TakesLemmas.{back}
use Rattle.wasm_below.proofs.Blocks.{refused_now}
use Rattle.wasm_below.proofs.Sequences.{then_first, then_second, then_no_second, refuses_by}

pub number_prefix_code : (width : ℕ) → PrefixCode (EncodesUnsigned width)
number_prefix_code width a b x y m n p q e = unsigned_prefix_code a b width x y m n p q e

pub unsigned_some : (width : ℕ) (text : List ℕ) (n : ℕ) → EncodesUnsigned width text n → 0 < length text
unsigned_some width [] n p = absurd p
unsigned_some width (c ∷ text) n p = omega arith

pub began_within : (old mid : Reader) (text : List ℕ) → Takes old mid text → 0 < length text → offset_of old ≤ end_of old
began_within old mid text t some =
    let whole : length old.buffer - old.position ≡ length text + length (rest mid) = sym (length-drop old.position old.buffer) ∙ ap length t.parts ∙
    length-append text (rest mid) in
    omega arith

pub second_refused : {X Y : Type 0} (P : List ℕ → X → Type 0) (Q : X → List ℕ → Y → Type 0) (e : Error) (old mid mid2 new : Reader) (x : X) (position : ℕ) →
    PrefixCode P → HasRead P x old mid → (mid2 ≡ mid) × IsRefusal (Q x) e mid → position ≡ old.position → new ≡ at_position mid2 position →
    (new ≡ old) × IsRefusal (Then P Q) e old
second_refused P Q e old mid mid2 new x position prefix_code r h at went =
    (back old mid new r.0 position r.2 at (went ∙ ap (λ (m : Reader). at_position m position) h.0), then_second P Q e old mid x prefix_code r h.1)

pub first_rules_out : {X Y : Type 0} (P : List ℕ → X → Type 0) (Q : X → List ℕ → Y → Type 0) (e : Error) (old mid new : Reader) (x : X) → PrefixCode P →
    ((text : List ℕ) → P text x → 0 < length text) → HasRead P x old mid → ((text : List ℕ) (y : Y) → ¬ Q x text y) → new ≡ old →
    e.offset ≡ offset_of old → IsReadFault e.message → (new ≡ old) × IsRefusal (Then P Q) e old
first_rules_out P Q e old mid new x prefix_code some (text, p, takes) none went at fault =
    let fits : offset_of old ≤ end_of old = began_within old mid text takes (some text p) in (
      went,
      record {
        refuses = λ more _. subst (λ z. NoPrefix (Then P Q) (z ++ more)) (sym takes.parts)
            (then_no_second P Q text (rest mid) more x prefix_code p (λ t after y q eq. none t y q));
        fault = fault;
        ahead = (omega arith, omega arith);
      },
    )

pub first_missing : {X Y : Type 0} (P : List ℕ → X → Type 0) (Q : X → List ℕ → Y → Type 0) (F : Message → Reader → ℕ → Type 0)
    (G : X → Message → Reader → ℕ → Type 0) (e : Error) (old new : Reader) → Reads P F (Err e) old new →
    Reads (Then P Q) (ThenFault P F G) (Err e) old new
first_missing P Q F G e old new (same, h, f) = (same, then_first P Q e old h, inl (refused_now P e old h, f))

pub second_missing : {X Y : Type 0} (P : List ℕ → X → Type 0) (Q : X → List ℕ → Y → Type 0) (F : Message → Reader → ℕ → Type 0)
    (G : X → Message → Reader → ℕ → Type 0) (e : Error) (old mid mid2 new : Reader) (x : X) (position : ℕ) → PrefixCode P → HasRead P x old mid →
    Reads (Q x) (G x) (Err e) mid mid2 → position ≡ old.position → new ≡ at_position mid2 position → Reads (Then P Q) (ThenFault P F G) (Err e) old new
second_missing P Q F G e old mid mid2 new x position prefix_code r (same, h, f) at went = (
  back old mid new r.0 position r.2 at (went ∙ ap (λ (m : Reader). at_position m position) same),
  then_second P Q e old mid x prefix_code r h,
  inr (x, mid, r, f),
)

pub missing_as : {X Y : Type 0} (P : List ℕ → X → Type 0) (Q : List ℕ → Y → Type 0) (F G : Message → Reader → ℕ → Type 0) (e : Error) (old new : Reader) →
    ((text : List ℕ) (y : Y) → Q text y → (x : X) × P text x) → ((m : Message) (offset : ℕ) → F m old offset → G m old offset) →
    Reads P F (Err e) old new → Reads Q G (Err e) old new
missing_as P Q F G e old new encodes faults (same, h, f) = (same, refuses_by P Q e old encodes h, faults e.message e.offset f)
