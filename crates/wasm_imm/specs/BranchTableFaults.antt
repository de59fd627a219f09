use Rattle.std.specs.Prelude.{ℕ, suc}
use Rattle.wasm_below.specs.declared.message.Message.{Message}
use Rattle.wasm_below.specs.declared.message.SizeName.TheVariants as size_name
use Rattle.wasm_below.specs.Fault.{ThenFault, ManyFault}
use Rattle.wasm_below.specs.Number.{EncodesUnsigned, EncodesSize}
use Rattle.wasm_below.specs.Source.{Reader, U32Fault, CountFault}
use Rattle.wasm_imm.specs.BranchTables.{max_targets}

-- The error of the count or a target.
abbrev pub BranchTableFault : Message → Reader → ℕ → Type 0
BranchTableFault = ThenFault (EncodesSize max_targets) (CountFault size_name.BrTable max_targets) (λ count. ManyFault (EncodesUnsigned 32) U32Fault (suc count))
