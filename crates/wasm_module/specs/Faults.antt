use Rattle.wasm_below.specs.declared.error.Error.{Error}
use Rattle.wasm_below.specs.declared.message.Message.{Message}
use Rattle.wasm_below.specs.declared.message.Message.TheVariants as message
use Rattle.wasm_module.specs.declared.fault.ModuleFault.{ModuleFault}
use Rattle.wasm_module.specs.declared.fault.ModuleFault.TheVariants as fault

abbrev pub fault_by : Message → Error → ModuleFault
fault_by message.OutOfMemory e = fault.Memory
fault_by _ e = fault.Refused e

-- `Memory` for an allocation failure; otherwise `Refused` with this error.
abbrev pub fault_of : Error → ModuleFault
fault_of e = fault_by e.message e
