use Rattle.std.proofs.Common.{ℕ}
use Rattle.wasm_module.specs.Types.{EncodesValueTypes, ValueTypesFault, EncodesSignature, SignatureFault}
use Rattle.wasm_below.proofs.Ahead.{failed}
use Rattle.wasm_module.proofs.Composites.{value_types_code}
use Rattle.wasm_module.proofs.Sequences.{both_read, both_first, both_second}
use Rattle.wasm_module.proofs.composite.read_signature.Goals as goal

pub returns-in_err-parameters : goal.returns-in_err-parameters
returns-in_err-parameters c =
    failed EncodesSignature SignatureFault _ _ c.from_residual.ensures.1
    (both_first EncodesValueTypes EncodesValueTypes ValueTypesFault (λ parameters. ValueTypesFault) (λ (p : ℕ × ℕ). p) c.in_err-parameters.ensures)

pub returns-in_err-results : goal.returns-in_err-results
returns-in_err-results c =
    failed EncodesSignature SignatureFault _ _ c.from_residual-in_err-results.ensures.1
    (both_second EncodesValueTypes EncodesValueTypes ValueTypesFault (λ parameters. ValueTypesFault) (λ (p : ℕ × ℕ). p) (value_types_code (c.unsigned_numbers.ensures 32) c.value_types.ensures) c.in_ok-parameters.ensures
    c.in_err-results.ensures)

pub returns : goal.returns
returns c =
    both_read EncodesValueTypes EncodesValueTypes c.in_ok-parameters.ensures c.in_ok-results.ensures
