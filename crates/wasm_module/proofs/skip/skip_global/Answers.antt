use Rattle.wasm_below.specs.Source.{EndFault, IsByte}
use Rattle.wasm_below.specs.TypeEncoding.{EncodesValType, ValTypeFault}
use Rattle.wasm_module.specs.Imports.{SomeOf, IsGlobal, GlobalFault}
use Rattle.wasm_below.proofs.Ahead.{first_fails, second_fails, failed}
use Rattle.wasm_module.proofs.Sequences.{then_read, some_read, some_refused}
use Rattle.wasm_module.proofs.skip.skip_global.Goals as goal

pub returns-in_err-read : goal.returns-in_err-read
returns-in_err-read c =
    let h = c.in_err-read.ensures in
    failed IsGlobal GlobalFault _ _ c.from_residual.ensures.1
    (first_fails EncodesValType (λ ty. SomeOf IsByte) ValTypeFault (λ ty. EndFault) (h.1, h.2))

pub returns-in_err-read_u8 : goal.returns-in_err-read_u8
returns-in_err-read_u8 c =
    let h = c.in_err-read_u8.ensures in
    failed IsGlobal GlobalFault _ _ c.from_residual-in_err-read_u8.ensures.1
    (second_fails EncodesValType (λ ty. SomeOf IsByte) ValTypeFault (λ ty. EndFault) c.value_types.ensures c.in_ok-read.ensures
    (some_refused IsByte EndFault (h.1, h.2)))

pub returns : goal.returns
returns c =
    then_read EncodesValType (λ ty. SomeOf IsByte) {y = tt} c.in_ok-read.ensures (some_read IsByte c.in_ok-read_u8.ensures)
