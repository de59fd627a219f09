-- Calls in sequence, and how a reader goes back.
use Rattle.std.proofs.Common.{◌≡◌, ℕ, ◌+◌, ◌-◌, ◌≤◌, ◌<◌, List, [], ◌∷◌, ◌++◌, length, drop, leb, Result, Ok, Err, refl, sym, subst, ap, ◌∙◌, append_assoc, length-append, length-drop, arith}
use Rattle.std.specs.Prelude.{IsTrue, ◌↔◌}
use Rattle.std.proofs.lemmas.Bool.{le-leb, leb-true}
use Rattle.std.proofs.lemmas.List.{drop_all}
use Rattle.wasm_below.specs.declared.error.Error.{Error}
use Rattle.wasm_below.specs.declared.message.Message.{Message}
use Rattle.wasm_below.specs.Source.{Reader, rest, at_position, Takes, IsAhead, HasRead, Reads, IsByte, IsEndHere, S33Fault}

pub rewound : (old new : Reader) (text : List ℕ) → Takes old new text → at_position new old.position ≡ old
rewound old new text t = ap (λ r. at_position r old.position) t.moved

pub takes_then : (a b c : Reader) (x y : List ℕ) → Takes a b x → Takes b c y → Takes a c (x ++ y)
takes_then a b c x y p q =
    record {
      moved = q.moved ∙ ap (λ r. at_position r (r.position + length y)) p.moved ∙
          ap (at_position a) (let n : length (x ++ y) ≡ length x + length y = length-append x y in omega arith);
      parts = p.parts ∙ ap (λ z. x ++ z) q.parts ∙ sym (append_assoc x y (rest c));
    }

pub takes_none : (r : Reader) → Takes r r []
takes_none r = record { moved = ap (at_position r) (omega arith); parts = refl }

pub first_byte_read : (old mid : Reader) (b : ℕ) → HasRead IsByte b old mid → (rest old ≡ b ∷ rest mid) × (b < 256) × Takes old mid (b ∷ [])
first_byte_read old mid b (text, is, takes) =
    let t : Takes old mid (b ∷ []) = subst (Takes old mid) is.0 takes in
    (t.parts, is.1, t)

pub within_buffer : (old new : Reader) (text : List ℕ) → old.position ≤ length old.buffer → Takes old new text →
    old.position + length text + length (rest new) ≡ length old.buffer
within_buffer old new text le t =
    let whole : length old.buffer - old.position ≡ length text + length (rest new) = sym (length-drop old.position old.buffer) ∙ ap length t.parts ∙
    length-append text (rest new) in
    omega arith

pub ahead_before : (old mid : Reader) (text : List ℕ) (offset : ℕ) → Takes old mid text → IsAhead mid offset → IsAhead old offset
ahead_before old mid text offset t h =
    let starts : mid.start ≡ old.start = ap (λ (r : Reader). r.start) t.moved in
    let position : mid.position ≡ old.position + length text = ap (λ (r : Reader). r.position) t.moved in
    let buffer : length mid.buffer ≡ length old.buffer = ap (λ (r : Reader). length r.buffer) t.moved in
    (omega (arith, h.0), omega (arith, h.1))

pub none_left : (n : ℕ) (xs left : List ℕ) → drop n xs ≡ left → n ≤ length xs → IsTrue (leb (length xs) n) ↔ (left ≡ [])
none_left n xs left e le = (
  λ t. sym e ∙ drop_all n xs (leb-true (length xs) n t),
  λ h. le-leb (length xs) n (let z : length xs - n ≡ 0 = sym (length-drop n xs) ∙ ap length (e ∙ h) in omega (arith, z)),
)

pub same_rest : {A : Type 0} (a b x y : List A) → a ≡ b → a ++ x ≡ b ++ y → x ≡ y
same_rest [] [] x y h e = e
same_rest [] (c ∷ b) x y h e = absurd (cc h)
same_rest (c ∷ a) [] x y h e = absurd (cc h)
same_rest (c ∷ a) (d ∷ b) x y h e = same_rest a b x y (cc h) (cc e)

pub end_too_long : (e : Error) (r : Reader) → IsEndHere e r → S33Fault e.message r e.offset
end_too_long e r h = subst (λ m. S33Fault m r e.offset) (sym h.0) ((h.1 ∙ h.2, omega (arith, h.2)), tt)

pub back : (old mid new : Reader) (text : List ℕ) (position : ℕ) → Takes old mid text → position ≡ old.position → new ≡ at_position mid position → new ≡ old
back old mid new text position t same e = e ∙ ap (at_position mid) same ∙ rewound old mid text t

-- A copy read from position `start`, and the reader goes to the copy's position.
pub read_to_copy : {X : Type 0} (P : List ℕ → X → Type 0) (F : Message → Reader → ℕ → Type 0) (result : Result X Error) (old begun after new : Reader)
    (start : ℕ) → begun ≡ at_position old start → Reads P F result begun after → new ≡ at_position old after.position → Reads P F result begun new
read_to_copy P F (Ok x) old begun after new start e (text, p, t) went =
    let position : after.position ≡ begun.position + length text = ap (λ (r : Reader). r.position) t.moved in
    let same : new ≡ after = went ∙ sym (ap (λ (r : Reader). at_position r after.position) e) ∙ ap (at_position begun) position ∙ sym t.moved in
    (text, p, subst (λ r. Takes begun r text) (sym same) t)
read_to_copy P F (Err e) old begun after new start is h went =
    (went ∙ ap (λ (r : Reader). at_position old r.position) (h.0 ∙ is) ∙ sym is, h.1, h.2)

pub read_by_copy : {X : Type 0} (P : List ℕ → X → Type 0) (F : Message → Reader → ℕ → Type 0) (result : Result X Error) (old copy after new : Reader) →
    copy ≡ old → Reads P F result copy after → new ≡ at_position old after.position → Reads P F result old new
read_by_copy P F result old copy after new same h went =
    read_to_copy P F result old old after new old.position refl (subst (λ r. Reads P F result r after) same h) went
