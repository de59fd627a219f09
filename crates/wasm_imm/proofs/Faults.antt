use Rattle.std.proofs.Common.{◌≤◌, ◌≡◌, ◌≢◌, ℕ, zero, suc, ◌+◌, ◌<◌, inl, inr, Bool, List, [], ◌∷◌, ◌++◌, length, drop, refl, sym, subst, ap, ◌∙◌, append_assoc, length-append, arith}
use Rattle.std.proofs.Math.Seq.{drop-append_seam}
use Rattle.std.proofs.lemmas.List.{drop-drop, append-nil}
use Rattle.wasm_below.specs.declared.error.Error.{Error}
use Rattle.wasm_below.specs.declared.message.Message.{Message}
use Rattle.wasm_below.specs.declared.message.Message.TheVariants as message
use Rattle.wasm_below.specs.declared.message.LeadingByteName.{LeadingByteName}
use Rattle.wasm_below.specs.Fault.{ManyFault}
use Rattle.wasm_below.specs.Number.{EncodesSigned}
use Rattle.wasm_below.specs.Source.{Reader, rest, end_of, at_position, Takes, BeginsWith, NoPrefix, MayFollow, Refuses, IsRefusal, IsEndHere, HasRead, IsByte, S33Fault, last_offset}
use Rattle.wasm_below.specs.Reference.{Reference}
use Rattle.wasm_below.specs.TypeEncoding.{EncodesHeapType}
use Rattle.wasm_below.proofs.Blocks.{refused_now}
use Rattle.wasm_below.proofs.Prefixes.{end_refused}
use Rattle.wasm_imm.specs.Lists.{EncodesEach}
use Rattle.wasm_imm.specs.BlockTypeFaults.{LeadsValType, FunctionTypeFault, BlockTypeFault}
use Rattle.wasm_imm.specs.Casts.{EncodesReference}
use Rattle.wasm_imm.specs.HandlerFaults.{IsLeading, LeadingFault}
use Rattle.wasm_imm.specs.OutOfMemory.{IsRefusedFrom}
use Rattle.wasm_below.proofs.Faults.{no_byte}

ends_here : (m : Message) → m ≢ message.OutOfMemory → MayFollow m []
ends_here message.EndOfData some = refl
ends_here message.OutOfMemory some = absurd (some refl)
ends_here m some = tt

pub none_here : {X : Type 0} (P : List ℕ → X → Type 0) (m : Message) (r : Reader) → m ≢ message.OutOfMemory → Refuses P (rest r) m → NoPrefix P (rest r)
none_here P m r some h = subst (NoPrefix P) (append-nil (rest r)) (h [] (ends_here m some))

split_takes : (old now : Reader) (a b : List ℕ) → Takes old now (a ++ b) → (mid : Reader) × Takes old mid a × Takes mid now b
split_takes old now a b t =
    let mid = at_position old (old.position + length a) in
    let whole : rest old ≡ a ++ (b ++ rest now) = t.parts ∙ append_assoc a b (rest now) in
    let left : rest mid ≡ b ++ rest now = sym (drop-drop (length a) old.position old.buffer) ∙ ap (drop (length a)) whole ∙
    drop-append_seam a (b ++ rest now) in
    let goes : now ≡ at_position mid (mid.position + length b) = t.moved ∙
    ap (at_position old) (let n : length (a ++ b) ≡ length a + length b = length-append a b in omega arith) in
    (mid, record { moved = refl; parts = whole ∙ ap (λ z. a ++ z) (sym left) }, record { moved = goes; parts = left })

pub many_fault : {X : Type 0} (P : List ℕ → X → Type 0) (F : Message → Reader → ℕ →
    Type 0) (count : ℕ) (done : List X) (text : List ℕ) (old now : Reader) (m : Message) (offset : ℕ) → length done < count → EncodesEach P text done →
    Takes old now text → NoPrefix P (rest now) → F m now offset → ManyFault P F count m old offset
many_fault P F zero done text old now m offset l p t none f = absurd (omega (arith, l))
many_fault P F (suc n) [] text old now m offset l p t none f =
    let same : now ≡ old = t.moved ∙ ap (λ z. at_position old (old.position + length z)) p ∙ ap (at_position old) (omega arith) in
    inl (subst (λ r. NoPrefix P (rest r)) same none, subst (λ r. F m r offset) same f)
many_fault P F (suc n) (x ∷ done) text old now m offset l (first, after, e, p, ps) t none f =
    let s = split_takes old now first after (subst (Takes old now) e t) in
    inr (x, s.0, (first, p, s.1), many_fault P F n done after s.0 now m offset (omega (arith, l)) ps s.2 none f)

pub many_wider : {X : Type 0} (P : List ℕ → X → Type 0) (F : Message → Reader → ℕ → Type 0) (count : ℕ) (m : Message) (old : Reader) (offset : ℕ) →
    ManyFault P F count m old offset → ManyFault P F (suc count) m old offset
many_wider P F zero m old offset h = absurd h
many_wider P F (suc n) m old offset (inl h) = inl h
many_wider P F (suc n) m old offset (inr (x, new, r, b)) = inr (x, new, r, many_wider P F n m new offset b)

pub kept_fault : (F : Message → ℕ → Type 0) (e f : Error) (offset : ℕ) → IsRefusedFrom offset e f → (e.message ≢ message.OutOfMemory → F e.message e.offset) →
    f.message ≢ message.OutOfMemory → F f.message f.offset
kept_fault F e f offset (kept, inl s) h some = absurd (some s.0)
kept_fault F e f offset (kept, inr s) h some = subst (λ o. F f.message o) (sym s.1) (subst (λ m. F m e.offset) (sym kept) (h s.0))

pub leading_ended : (name : LeadingByteName) (highest : ℕ) (e : Error) (r : Reader) → IsRefusal IsByte e r → IsEndHere e r →
    NoPrefix (IsLeading highest) (rest r) × LeadingFault name highest e.message r e.offset
leading_ended name highest e r h end = let none = refused_now IsByte e r h in (λ text more byte p eq. none text more byte p.0 eq, inl end)

pub no_heap_type : (nullable : Bool) (e : Error) (r : Reader) → IsRefusal (EncodesReference nullable) e r → NoPrefix EncodesHeapType (rest r)
no_heap_type nullable e r h text more ty p eq =
    refused_now (EncodesReference nullable) e r h text more (record { nullable = nullable; heap_type = ty }) (refl, p) eq

pub heap_type_read : (nullable : Bool) (reference : Reference) (old new : Reader) → HasRead (EncodesReference nullable) reference old new →
    HasRead EncodesHeapType reference.heap_type old new
heap_type_read nullable reference old new (text, p, takes) = (text, p.1, takes)

pub block_ended : (e : Error) (r : Reader) → IsEndHere e r → BlockTypeFault e.message r e.offset
block_ended e r h =
    let same = h.2 in
    let near : end_of r ≤ last_offset 33 r = omega arith in
    let fault : S33Fault e.message r e.offset = subst (λ m. S33Fault m r e.offset) (sym h.0) ((h.1 ∙ h.2, near), tt) in
    inr (λ byte lead prefix. no_byte r byte h.2 prefix, inl (refused_now (EncodesSigned 33) e r (end_refused (EncodesSigned 33) e r (λ x p. p) h), fault))

pub index_fault : (r : Reader) (b : ℕ) → BeginsWith b (rest r) → (LeadsValType b → ⊥) → (m : Message) (offset : ℕ) → FunctionTypeFault m r offset →
    BlockTypeFault m r offset
index_fault r b (after, prefix) far m offset h = inr (λ byte lead (more, same). far (let is : byte ≡ b = cc (same, prefix) in subst LeadsValType is lead), h)
