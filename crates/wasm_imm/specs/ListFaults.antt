use Rattle.std.specs.Prelude.{ℕ, List}
use Rattle.wasm_below.specs.declared.message.Message.{Message}
use Rattle.wasm_below.specs.declared.message.SizeName.{SizeName}
use Rattle.wasm_below.specs.declared.message.SizeName.TheVariants as size_name
use Rattle.wasm_below.specs.Fault.{ThenFault, ManyFault}
use Rattle.wasm_below.specs.Number.{EncodesSize}
use Rattle.wasm_below.specs.Source.{Reader, CountFault}
use Rattle.wasm_below.specs.TypeEncoding.{EncodesValType, ValTypeFault}
use Rattle.wasm_imm.specs.BlockTypes.{EncodesBlockType}
use Rattle.wasm_imm.specs.BlockTypeFaults.{BlockTypeFault}
use Rattle.wasm_imm.specs.Handlers.{EncodesCatch, EncodesHandle}
use Rattle.wasm_imm.specs.HandlerFaults.{CatchFault, HandleFault}
use Rattle.wasm_imm.specs.HandlerTables.{max_catches, max_handlers, max_select_types}

-- The error of the count, with the list's name, or of a member.
abbrev pub ListFault : {X : Type 0} → SizeName → ℕ → (List ℕ → X → Type 0) → (Message → Reader → ℕ → Type 0) → Message → Reader → ℕ → Type 0
ListFault name limit Encodes Fault = ThenFault (EncodesSize limit) (CountFault name limit) (ManyFault Encodes Fault)

-- The error of the block type or the catches.
abbrev pub TryTableFault : Message → Reader → ℕ → Type 0
TryTableFault = ThenFault EncodesBlockType BlockTypeFault (λ ty. ListFault size_name.Catches max_catches EncodesCatch CatchFault)

-- The error of a resume table.
abbrev pub ResumeTableFault : Message → Reader → ℕ → Type 0
ResumeTableFault = ListFault size_name.ResumeTable max_handlers EncodesHandle HandleFault

-- The error of the types of a select.
abbrev pub SelectFault : Message → Reader → ℕ → Type 0
SelectFault = ListFault size_name.SelectTypes max_select_types EncodesValType ValTypeFault
