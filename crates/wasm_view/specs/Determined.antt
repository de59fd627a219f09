use Rattle.std.specs.Prelude.{FitsSigned}
use Rattle.std.specs.Int.{w64}
use Rattle.wasm_instr.specs.declared.operator.Operator.{Operator}
use Rattle.wasm_instr.specs.declared.operator.Operator.TheVariants as operator

-- The operator carries no list, and its integer constant, if any, fits in an `i64`.
abbrev pub IsWhole : Operator → Type 0
IsWhole (operator.BrTable _) = ⊥
IsWhole (operator.TypedSelectMulti _) = ⊥
IsWhole (operator.TryTable _) = ⊥
IsWhole (operator.Resume _ _) = ⊥
IsWhole (operator.ResumeThrow _ _ _) = ⊥
IsWhole (operator.ResumeThrowRef _ _) = ⊥
IsWhole (operator.I32Const n) = FitsSigned w64 n
IsWhole (operator.I64Const n) = FitsSigned w64 n
IsWhole _ = Unit {0}
