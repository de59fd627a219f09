-- The encoding at the reader's position determines the result: encodings are prefix codes, and
-- faults determine errors.
use Rattle.std.proofs.Common.{◌≡◌, ◌≢◌, ℕ, ◌+◌, List, [], ◌++◌, length, Result, Ok, Err, IfOk, IfErr, refl, sym, ap, subst, ◌∙◌, append-nil}
use Rattle.wasm_operators.specs.below.declared.error.Error.{Error}
use Rattle.wasm_operators.specs.below.declared.message.Message.{Message}
use Rattle.wasm_operators.specs.below.declared.message.Message.TheVariants as message
use Rattle.wasm_operators.specs.below.Fault.{DeterminesRefusal, HasFault}
use Rattle.wasm_operators.specs.below.Refusal.{IsReadFault}
use Rattle.wasm_operators.specs.below.Sequence.{PrefixCode, PrefixCodeUpTo}
use Rattle.wasm_operators.specs.below.FromReader.{ReadsValue}
use Rattle.wasm_operators.specs.below.Source.{Reader, rest, Takes, Reads, ReadsFrom, Refuses, MayFollow}

pub may_follow : (m : Message) → m ≢ message.OutOfMemory → MayFollow m []
may_follow message.EndOfData other = refl
may_follow message.OutOfMemory other = absurd (other refl)
may_follow _ other = tt

pub memory_alone : (m : Message) → (m ≢ message.OutOfMemory → ⊥) → m ≡ message.OutOfMemory
memory_alone message.OutOfMemory none = refl
memory_alone _ none = absurd (none (λ is. absurd (cc is)))

pub refused_there : {X : Type 0} (Encodes : List ℕ → X → Type 0) (m : Message) (r : Reader) (text more : List ℕ) (x : X) →
    Refuses Encodes (rest r) m → Encodes text x → rest r ≡ text ++ more → m ≡ message.OutOfMemory
refused_there Encodes m r text more x refuses encodes parts =
    memory_alone m (λ other. refuses [] (may_follow m other) text more x encodes (append-nil (rest r) ∙ parts))

nothing_follows : (m : Message) → IsReadFault m → MayFollow m []
nothing_follows m fault = may_follow m (λ is. subst IsReadFault is fault)

pub reads_known : {X : Type 0} (Encodes : List ℕ → X → Type 0) (Fault : Message → Reader → ℕ → Type 0) (result : Result X Error) (old new : Reader) (x : X)
    (text more : List ℕ) → PrefixCode Encodes → Reads Encodes Fault result old new → rest old ≡ text ++ more → Encodes text x → result ≡ Ok x
reads_known Encodes Fault (Ok y) old new x text more code (taken, encodes, takes) parts known =
    ap (λ v. Ok v) (code taken text (rest new) more y x encodes known (sym takes.parts ∙ parts)).1
reads_known Encodes Fault (Err e) old new x text more code (same, refusal, fault) parts known =
    absurd (refusal.refuses [] (nothing_follows e.message refusal.fault) text more x known (append-nil (rest old) ∙ parts))

pub reads_from_known : {X : Type 0} (start : ℕ) (Encodes : List ℕ → X → Type 0) (Fault : Message → Reader → ℕ → Type 0) (result : Result X Error)
    (old new : Reader) (x : X) (text more : List ℕ) → PrefixCode Encodes → ReadsFrom start Encodes Fault result old new → rest old ≡ text ++ more →
    Encodes text x → result ≡ Ok x
reads_from_known start Encodes Fault (Ok y) old new x text more code reads parts known =
    reads_known Encodes Fault (Ok y) old new x text more code reads parts known
reads_from_known start Encodes Fault (Err e) old new x text more code (same, refuses, is, above, within, fault) parts known =
    absurd (refuses [] (nothing_follows e.message is) text more x known (append-nil (rest old) ∙ parts))

pub value_known : {X : Type 0} (Encodes : List ℕ → X → Type 0) (Fault : Message → Reader → ℕ → Type 0) (Memory : Reader → Type 0) (result : Result X Error)
    (old new : Reader) (x : X) (text more : List ℕ) → PrefixCode Encodes → ReadsValue Encodes Fault Memory result old new → rest old ≡ text ++ more →
    Encodes text x → IfOk result (λ y. y ≡ x)
value_known Encodes Fault Memory (Ok y) old new x text more code (taken, encodes, takes) parts known =
    (code taken text (rest new) more y x encodes known (sym takes.parts ∙ parts)).1
value_known Encodes Fault Memory (Err e) old new x text more code stopped parts known = tt

pub reads_some : {X : Type 0} (Encodes : List ℕ → X → Type 0) (Fault : Message → Reader → ℕ → Type 0) (result : Result X Error) (old new : Reader) →
    Reads Encodes Fault result old new →
    IfOk result (λ x. (text more : List ℕ) × (rest old ≡ text ++ more) × Encodes text x)
reads_some Encodes Fault (Ok x) old new (text, encodes, takes) = (text, rest new, takes.parts, encodes)
reads_some Encodes Fault (Err e) old new stopped = tt

pub takes_known : {X : Type 0} (same : X → X → Type 0) (Encodes : List ℕ → X → Type 0) (old new : Reader) (x y : X) (taken text more : List ℕ) →
    PrefixCodeUpTo same Encodes → Encodes taken y → Takes old new taken → rest old ≡ text ++ more → Encodes text x →
    new.position ≡ old.position + length text
takes_known same Encodes old new x y taken text more code encodes takes parts known =
    ap (λ (r : Reader). r.position) takes.moved ∙
    ap (λ t. old.position + length t) (code taken text (rest new) more y x encodes known (sym takes.parts ∙ parts)).0

pub fault_known : {X : Type 0} (Encodes : List ℕ → X → Type 0) (Fault : Message → Reader → ℕ → Type 0) (result : Result X Error) (r new : Reader) (m : Message)
    (offset : ℕ) → DeterminesRefusal Fault → Reads Encodes Fault result r new → Fault m r offset → IfErr result (λ e. (e.message ≡ m) × (e.offset ≡ offset))
fault_known Encodes Fault (Ok x) r new m offset determines is known = tt
fault_known Encodes Fault (Err e) r new m offset determines is known = determines e.message m r e.offset offset is.2 known

pub fault_from_known : {X : Type 0} (start : ℕ) (Encodes : List ℕ → X → Type 0) (Fault : Message → Reader → ℕ → Type 0) (result : Result X Error)
    (r new : Reader) (m : Message) (offset : ℕ) → DeterminesRefusal Fault → ReadsFrom start Encodes Fault result r new → Fault m r offset →
    IfErr result (λ e. (e.message ≡ m) × (e.offset ≡ offset))
fault_from_known start Encodes Fault (Ok x) r new m offset determines is known = tt
fault_from_known start Encodes Fault (Err e) r new m offset determines (same, refuses, names, above, within, is) known =
    determines e.message m r e.offset offset is known

pub refused_value_known : {X : Type 0} (Encodes : List ℕ → X → Type 0) (Fault : Message → Reader → ℕ → Type 0) (Memory : Reader → Type 0) (result : Result X Error)
    (r new : Reader) (m : Message) (offset : ℕ) → DeterminesRefusal Fault → ReadsValue Encodes Fault Memory result r new → Fault m r offset →
    IfErr result (λ e. e.message ≢ message.OutOfMemory → (e.message ≡ m) × (e.offset ≡ offset))
refused_value_known Encodes Fault Memory (Ok x) r new m offset determines reads known = tt
refused_value_known Encodes Fault Memory (Err e) r new m offset determines (same, refused) known =
    λ other. determines e.message m r e.offset offset (refused.fault other) known

pub value_fault_known : {X : Type 0} (Fault : Message → Reader → ℕ → Type 0) (result : Result X Error) (r : Reader) (m : Message) (offset : ℕ) →
    DeterminesRefusal Fault → IfErr result (λ e. HasFault Fault e r) → Fault m r offset →
    IfErr result (λ e. e.message ≢ message.OutOfMemory → (e.message ≡ m) × (e.offset ≡ offset))
value_fault_known Fault (Ok x) r m offset determines is known = tt
value_fault_known Fault (Err e) r m offset determines is known = λ other. determines e.message m r e.offset offset (is other) known
