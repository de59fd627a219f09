use Rattle.wasm_validation.specs.declared.fault.Fault.{Fault}
use Rattle.wasm_validation.specs.Faults.{StopsLater}
use Rattle.wasm_validation.specs.Valid.{IsValidFrom}
use Rattle.wasm_validation.proofs.modules.check_payloads.Given as goal

-- What completes the payloads that are left completes all of them.
abbrev pub invariant-payloads : goal.invariant-payloads
invariant-payloads l = record {
  valid : IsValidFrom l.payloads l.stage → IsValidFrom l.fn.parser l.fn.stage;
  stops : (f : Fault) → StopsLater l.payloads l.stage f → StopsLater l.fn.parser l.fn.stage f;
}
