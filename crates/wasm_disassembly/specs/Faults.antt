use Rattle.wasm_operators.specs.below.declared.error.Error.{Error}
use Rattle.wasm_operators.specs.below.declared.message.Message.{Message}
use Rattle.wasm_operators.specs.below.declared.message.Message.TheVariants as message
use Rattle.wasm_disassembly.specs.declared.fault.DisassemblyFault.{DisassemblyFault}
use Rattle.wasm_disassembly.specs.declared.fault.DisassemblyFault.TheVariants as fault

-- Allocation or the writer failed.
abbrev pub IsOutputFailure : DisassemblyFault → Type 0
IsOutputFailure (fault.Refused e) = ⊥
IsOutputFailure fault.Memory = Unit {0}
IsOutputFailure fault.Writing = Unit {0}

-- `Memory` for `OutOfMemory`, otherwise `Refused`.
abbrev pub fault_at : Message → Error → DisassemblyFault
fault_at message.OutOfMemory e = fault.Memory
fault_at _ e = fault.Refused e
