use Rattle.std.proofs.Common.{◌≡◌, ℕ, ◌+◌, inl, List, [], Result, Ok, Err, IfErr, sym, ap, ◌∙◌, arith, ◌-◌, length, length-drop}
use Rattle.std.proofs.lemmas.List.{drop_all}
use Rattle.wasm_below.specs.declared.error.Error.{Error}
use Rattle.wasm_below.specs.declared.message.Message.{Message}
use Rattle.wasm_below.specs.Fault.{ThenFault}
use Rattle.wasm_below.specs.Source.{Reader, rest, offset_of, end_of, BeginsWith, IsRefusal}
use Rattle.wasm_below.proofs.Blocks.{refused_now}

pub if_err : {X : Type 0} (P Q : Error → Type 0) (result : Result X Error) → ((e : Error) → P e → Q e) → IfErr result P → IfErr result Q
if_err P Q (Ok x) f h = tt
if_err P Q (Err e) f h = f e h

pub first_fault : {X : Type 0} (First : List ℕ → X → Type 0) (FirstFault : Message → Reader → ℕ → Type 0) (After : X → Message → Reader → ℕ →
    Type 0) (e : Error) (r : Reader) → IsRefusal First e r → FirstFault e.message r e.offset → ThenFault First FirstFault After e.message r e.offset
first_fault First FirstFault After e r h f = inl (refused_now First e r h, f)

pub none_here : (r : Reader) → offset_of r ≡ end_of r → rest r ≡ []
none_here r e = drop_all r.position r.buffer (omega arith)

pub no_byte : (r : Reader) (byte : ℕ) → offset_of r ≡ end_of r → BeginsWith byte (rest r) → ⊥
no_byte r byte same (more, prefix) =
    let left : length r.buffer - r.position ≡ length more + 1 = sym (length-drop r.position r.buffer) ∙ ap length prefix ∙ omega arith in
    omega arith
