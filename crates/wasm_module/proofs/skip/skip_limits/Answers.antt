use Rattle.wasm_below.specs.Number.{EncodesUnsigned}
use Rattle.wasm_below.specs.Source.{EndFault, IsByte, U64Fault}
use Rattle.wasm_module.specs.Imports.{IsMost, MostFault, IsBounds, BoundsFault, IsLimits, LimitsFault}
use Rattle.wasm_below.proofs.Ahead.{first_fails, second_fails, failed}
use Rattle.wasm_below.proofs.PrefixCode.{byte_prefix_code}
use Rattle.wasm_module.proofs.Sequences.{then_read}
use Rattle.wasm_module.proofs.skip.skip_limits.Goals as goal

pub returns-in_err-flags : goal.returns-in_err-flags
returns-in_err-flags c =
    let h = c.in_err-flags.ensures in
    failed IsLimits LimitsFault _ _ c.from_residual.ensures.1
    (first_fails IsByte IsBounds EndFault BoundsFault (h.1, h.2))

pub returns-in_err-read_var_u64 : goal.returns-in_err-read_var_u64
returns-in_err-read_var_u64 c =
    let h = c.in_err-read_var_u64.ensures in
    let flags = c.in_ok-flags.flags in
    failed IsLimits LimitsFault _ _ c.from_residual-in_err-read_var_u64.ensures.1
    (second_fails IsByte IsBounds EndFault BoundsFault byte_prefix_code c.in_ok-flags.ensures
    (first_fails (EncodesUnsigned 64) (λ least. IsMost flags) U64Fault (λ least. MostFault flags) (h.1, h.2)))

pub returns-in_err-skip_most : goal.returns-in_err-skip_most
returns-in_err-skip_most c =
    let h = c.in_err-skip_most.ensures in
    let flags = c.in_ok-flags.flags in
    failed IsLimits LimitsFault _ _ c.from_residual-in_err-skip_most.ensures.1
    (second_fails IsByte IsBounds EndFault BoundsFault byte_prefix_code c.in_ok-flags.ensures
    (second_fails (EncodesUnsigned 64) (λ least. IsMost flags) U64Fault (λ least. MostFault flags) (c.unsigned_numbers.ensures 64) c.in_ok-read_var_u64.ensures (h.1, h.2)))

pub returns : goal.returns
returns c =
    let flags = c.in_ok-flags.flags in
    then_read IsByte IsBounds {y = tt} c.in_ok-flags.ensures
    (then_read (EncodesUnsigned 64) (λ least. IsMost flags) {y = tt} c.in_ok-read_var_u64.ensures c.in_ok-skip_most.ensures)
