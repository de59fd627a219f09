use Rattle.std.proofs.Common.{◌≡◌, ◌≢◌, ℕ, ◌+◌, inl, inr, List, [], ◌∷◌, Err, sym, subst, ap, arith}
use Rattle.wasm_below.specs.declared.error.Error.{Error}
use Rattle.wasm_below.specs.declared.message.Message.{Message}
use Rattle.wasm_below.specs.declared.message.Message.TheVariants as message
use Rattle.wasm_below.specs.declared.message.TypeName.TheVariants as type_name
use Rattle.wasm_below.specs.Number.{EncodesSigned}
use Rattle.wasm_below.specs.Source.{Reader, rest, Takes, NoPrefix, BeginsWith, IsEndHere, Reads, S33Fault}
use Rattle.wasm_below.specs.TypeEncoding.{LeadsShort, EncodesConcrete, ShortFault, NoIndex, ExactFault, ConcreteFault, HeapTypeFault}
use Rattle.wasm_below.proofs.TakesLemmas.{end_too_long}
use Rattle.wasm_below.proofs.SignedNumbers.{signed_empty}
use Rattle.wasm_below.proofs.Faults.{none_here, first_fault}
use Rattle.wasm_below.proofs.Sequences.{refuses_by}
use Rattle.wasm_below.proofs.TypeEncodings.{concrete_number}

pub end_heap : (e : Error) (r : Reader) → IsEndHere e r → HeapTypeFault e.message r e.offset
end_heap e r h =
    let none : rest r ≡ [] = none_here r h.2 in
    inr (inr (
      λ f. let g : rest r ≡ 0x62 ∷ f.0 = f.1 in cc,
      λ f. let g : rest r ≡ f.0 ∷ f.2.0 = f.2.1 in cc,
      inl (subst (NoPrefix (EncodesSigned 33)) (sym none) signed_empty, end_too_long e r h),
    ))

pub short_fault : (b : ℕ) (r : Reader) → BeginsWith b (rest r) → LeadsShort b → (m : Message) (offset : ℕ) → ShortFault type_name.HeapType m r offset →
    HeapTypeFault m r offset
short_fault b r prefix l m offset h = inr (inl ((b, l, prefix), h))

pub exact_fault : (b : ℕ) (r : Reader) → BeginsWith b (rest r) → b ≡ 0x62 → (m : Message) (offset : ℕ) → ExactFault m r offset → HeapTypeFault m r offset
exact_fault b r prefix same m offset h = inl (subst (λ z. BeginsWith z (rest r)) same prefix, h)

pub concrete_fault : (b : ℕ) (r : Reader) → BeginsWith b (rest r) → (LeadsShort b → ⊥) → b ≢ 0x62 → (m : Message) (offset : ℕ) → ConcreteFault m r offset →
    HeapTypeFault m r offset
concrete_fault b r prefix l x m offset h =
    inr (inr (
      λ f. x (let g : b ≡ 0x62 = cc (prefix.1, f.1) in g),
      λ f. l (subst LeadsShort (let g : f.0 ≡ b = cc (prefix.1, f.2.1) in g) f.1),
      h,
    ))

pub concrete_missing : (e : Error) (old new : Reader) → Reads (EncodesSigned 33) S33Fault (Err e) old new → Reads EncodesConcrete ConcreteFault (Err e) old new
concrete_missing e old new (same, h, f) =
    (same, refuses_by (EncodesSigned 33) EncodesConcrete e old concrete_number h, first_fault (EncodesSigned 33) S33Fault (λ n. NoIndex old) e old h f)

pub no_index : (m : Message) (offset position : ℕ) (begin old mid : Reader) (text : List ℕ) → Takes old mid text → old.start ≡ begin.start →
    position ≡ begin.position → m ≡ message.InvalidType type_name.HeapType → offset ≡ mid.start + position → NoIndex begin m mid offset
no_index m offset position begin old mid text t same at is e =
    let start : mid.start ≡ old.start = ap (λ (r : Reader). r.start) t.moved in
    (is, omega (arith, start, same, at, e))
