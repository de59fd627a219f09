use Rattle.wasm_context.specs.Components.{Components}
use Rattle.wasm_module_context.specs.declared.error.PayloadError.{PayloadError}
use Rattle.wasm_module_context.specs.Modules.{AddsAll, FailsAll}
use Rattle.wasm_module_context.proofs.modules.add_payloads.Given as goal

-- What completes the payloads that are left completes all of them.
abbrev pub invariant-payloads : goal.invariant-payloads
invariant-payloads l = record {
  adds : (d : Components) → AddsAll l.payloads l.context d → AddsAll l.fn.parser l.fn.context d;
  fails : (e : PayloadError) → FailsAll l.payloads l.context e → FailsAll l.fn.parser l.fn.context e;
}
