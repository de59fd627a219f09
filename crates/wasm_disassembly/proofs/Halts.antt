use Rattle.std.proofs.Common.{◌≡◌, ◌≢◌, Result, Ok, Err, IfErr, sym, subst}
use Rattle.wasm_operators.specs.below.declared.error.Error.{Error}
use Rattle.wasm_operators.specs.below.declared.message.Message.{Message}
use Rattle.wasm_operators.specs.below.declared.message.Message.TheVariants as message
use Rattle.wasm_disassembly.specs.declared.fault.DisassemblyFault.{DisassemblyFault}
use Rattle.wasm_disassembly.specs.declared.fault.DisassemblyFault.TheVariants as fault
use Rattle.wasm_disassembly.specs.Faults.{IsOutputFailure, fault_at}

-- A fact about `Memory` and `Writing`.
pub at_halt : (P : DisassemblyFault → Type 0) (f : DisassemblyFault) → IsOutputFailure f → P fault.Memory → P fault.Writing → P f
at_halt P (fault.Refused e) halts memory writing = absurd halts
at_halt P fault.Memory halts memory writing = memory
at_halt P fault.Writing halts memory writing = writing

pub writing_halts : {X : Type 0} (r : Result X DisassemblyFault) → IfErr r (λ f. f ≡ fault.Writing) → IfErr r (λ f. IsOutputFailure f)
writing_halts (Ok x) is = tt
writing_halts (Err f) is = subst IsOutputFailure (sym is) tt

abbrev IsOther : Message → Type 0
IsOther message.OutOfMemory = ⊥
IsOther _ = Unit {0}

pub at_fault : (P : DisassemblyFault → Type 0) (m : Message) (e : Error) → P fault.Memory → (m ≢ message.OutOfMemory → P (fault.Refused e)) → P (fault_at m e)
at_fault P message.OutOfMemory e memory refused = memory
at_fault P _ e memory refused = refused (λ is. absurd (subst IsOther is tt))

pub memory_halts : (e : Error) → e.message ≡ message.OutOfMemory → IsOutputFailure (fault_at e.message e)
memory_halts e is = subst (λ m. IsOutputFailure (fault_at m e)) (sym is) tt
