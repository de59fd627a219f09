use Rattle.std.proofs.Common.{drop}
use Rattle.wasm_context.specs.Components.{Components}
use Rattle.wasm_module_context.specs.declared.error.PayloadError.{PayloadError}
use Rattle.wasm_module_context.specs.References.{Declares, FailsToDeclare}
use Rattle.wasm_module_context.proofs.references.declare_all.Given as goal

-- What completes the operators that are left completes all of them.
abbrev pub invariant-loop-operator : goal.invariant-loop-operator
invariant-loop-operator l = record {
  declares : (d : Components) → Declares (drop l.operator-index l.operators) l.context d → Declares l.operators l.fn.context d;
  fails : (e : PayloadError) → FailsToDeclare (drop l.operator-index l.operators) l.context e → FailsToDeclare l.operators l.fn.context e;
}
