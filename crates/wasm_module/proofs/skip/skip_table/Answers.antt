use Rattle.wasm_below.specs.TypeEncoding.{EncodesRefType, RefTypeFault}
use Rattle.wasm_module.specs.Imports.{IsLimits, LimitsFault, IsTable, TableFault}
use Rattle.wasm_below.proofs.Ahead.{first_fails, second_fails, failed}
use Rattle.wasm_module.proofs.Sequences.{then_read}
use Rattle.wasm_module.proofs.skip.skip_table.Goals as goal

pub returns-in_err-read : goal.returns-in_err-read
returns-in_err-read c =
    let h = c.in_err-read.ensures in
    failed IsTable TableFault _ _ c.from_residual.ensures.1
    (first_fails EncodesRefType (λ ty. IsLimits) RefTypeFault (λ ty. LimitsFault) (h.1, h.2))

pub returns-in_err-skip_limits : goal.returns-in_err-skip_limits
returns-in_err-skip_limits c =
    failed IsTable TableFault _ _ c.from_residual-in_err-skip_limits.ensures.1
    (second_fails EncodesRefType (λ ty. IsLimits) RefTypeFault (λ ty. LimitsFault) c.reference_types.ensures c.in_ok-read.ensures
    c.in_err-skip_limits.ensures)

pub returns : goal.returns
returns c =
    then_read EncodesRefType (λ ty. IsLimits) {y = tt} c.in_ok-read.ensures c.in_ok-skip_limits.ensures
