-- Specification: Binary Format, Control Instructions. Proposal legacy exception handling.
use Rattle.std.specs.Prelude.{Option, Some, None}
use Rattle.wasm_operators.specs.below.declared.error.Error.{Error}
use Rattle.wasm_operators.specs.instr.declared.operator.Operator.{Operator}
use Rattle.wasm_operators.specs.opcodes.Allowed.{EncodesAllowed}
use Rattle.wasm_operators.specs.opcodes.declared.guard.Guard.{Guard}
use Rattle.wasm_operators.specs.Guarded.{NextLacksFeature, NextIsMisplaced}
use Rattle.wasm_operators.specs.Next.{StopsNext, all_operators}
use Rattle.wasm_operators.specs.Reading.{State, TakesOperator}
use Rattle.uses.specs.declared.single_steps.Complaint.{Complaint}
use Rattle.uses.specs.declared.single_steps.Complaint.TheVariants as complaint

-- Reading the next operator fails with this error, or takes an operator.
abbrev pub IsRefusal : Option Error → State → State → Type 0
IsRefusal (Some e) old new = StopsNext all_operators e old new
IsRefusal None old new = (op : Operator) × TakesOperator EncodesAllowed op old new

-- `Feature`: the next operator's is disabled. `Frame`: the innermost forbids it. `Other`: no claim.
abbrev pub IsComplaint : State → Complaint → Type 0
IsComplaint s complaint.Feature = (g : Guard) × NextLacksFeature g s
IsComplaint s complaint.Frame = (g : Guard) × NextIsMisplaced g s
IsComplaint s complaint.Other = Unit {0}
