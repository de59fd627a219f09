use Rattle.std.proofs.Common.{◌≡◌, ℕ, List, Option, Ok, Err, IfErr, subst, ap, ◌∙◌}
use Rattle.std.specs.Prelude.{IfOk, IsOk}
use Rattle.std.specs.Io.KnownBytes.{Appends}
use Rattle.wasm_operators.specs.below.declared.error.Error.{Error}
use Rattle.wasm_operators.specs.below.Source.{Reader}
use Rattle.wasm_index_names.specs.Known.{ModuleNames}
use Rattle.wasm_disassembly.specs.declared.fault.DisassemblyFault.{DisassemblyFault}
use Rattle.wasm_disassembly.specs.declared.fault.DisassemblyFault.TheVariants as disassembly_fault
use Rattle.wasm_disassembly.specs.Faults.{IsOutputFailure}
use Rattle.wasm_disassembly.specs.Disassembly.{Heading, IsText, Disassembles}
use Rattle.wasm_disassembly.specs.Listing.{IsHalt, outcome_of}

abbrev heading_by : ℕ → ModuleNames → ℕ → Heading
heading_by index names parameters = record { index = index; names = names; parameters = parameters }

pub same_heading : (i j : ℕ) (a b : ModuleNames) (n m : ℕ) → i ≡ j → a ≡ b → n ≡ m → heading_by i a n ≡ heading_by j b m
same_heading i j a b n m index names parameters =
    ap (λ z. heading_by z a n) index ∙ ap (λ z. heading_by j z n) names ∙ ap (λ z. heading_by j b z) parameters

pub text_whole : (h k : Heading) (body : Reader) (old new : Option (List ℕ)) → h ≡ k → Disassembles {X = Unit {0}} h (Ok tt) body old new →
    (text : List ℕ) × Appends old new text × IsText {X = Unit {0}} k (Ok tt) body text
text_whole h k body old new same (text, appends, whole) = (text, appends, subst (λ z. IsText {X = Unit {0}} z (Ok tt) body text) same whole)

pub text_part : (h k : Heading) (f : DisassemblyFault) (e : Error) (body : Reader) (old new : Option (List ℕ)) → h ≡ k → f ≡ disassembly_fault.Refused e →
    Disassembles {X = Unit {0}} h (Err f) body old new → (text : List ℕ) × Appends old new text × IsText {X = Unit {0}} k (Err e) body text
text_part h k f e body old new same is disassembles =
    let (text, appends, part) = subst (λ z. Disassembles {X = Unit {0}} h (Err z) body old new) is disassembles in
    (text, appends, subst (λ z. IsText {X = Unit {0}} z (Err e) body text) same part)

-- The text of a function whose fault has this outcome.
pub text_of_fault : (h k : Heading) (f : DisassemblyFault) (body : Reader) (old new : Option (List ℕ)) → h ≡ k → Disassembles {X = Unit {0}} h (Err f) body old new →
    IfOk (outcome_of f) (λ outcome. (text : List ℕ) × Appends old new text × IsText k outcome body text)
text_of_fault h k (disassembly_fault.Refused e) body old new same (text, appends, part) =
    (text, appends, subst (λ z. IsText {X = Unit {0}} z (Err e) body text) same part)
text_of_fault h k disassembly_fault.Memory body old new same none = tt
text_of_fault h k disassembly_fault.Writing body old new same none = tt

pub whole_outcome : (P : Type 0) (f : DisassemblyFault) → (P → IsOutputFailure f) → IfOk (outcome_of f) (λ outcome. P → IsOk outcome)
whole_outcome P (disassembly_fault.Refused e) halts = λ p. absurd (halts p)
whole_outcome P disassembly_fault.Memory halts = tt
whole_outcome P disassembly_fault.Writing halts = tt

pub outcome_halts : (f : DisassemblyFault) → IfErr (outcome_of f) (λ f. IsHalt f)
outcome_halts (disassembly_fault.Refused e) = tt
outcome_halts disassembly_fault.Memory = tt
outcome_halts disassembly_fault.Writing = tt

pub no_halt : (P : Type 0) (f : DisassemblyFault) (e : Error) → f ≡ disassembly_fault.Refused e → IsOutputFailure f → P
no_halt P f e is halts = absurd (subst IsOutputFailure is halts)
