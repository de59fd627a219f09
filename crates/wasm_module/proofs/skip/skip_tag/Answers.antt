use Rattle.wasm_below.specs.Number.{EncodesUnsigned}
use Rattle.wasm_below.specs.Source.{EndFault, IsByte, U32Fault}
use Rattle.wasm_module.specs.Imports.{SomeOf, IsTag, TagFault}
use Rattle.wasm_below.proofs.Ahead.{first_fails, second_fails, failed}
use Rattle.wasm_below.proofs.PrefixCode.{byte_prefix_code}
use Rattle.wasm_module.proofs.Sequences.{then_read, some_read, some_refused}
use Rattle.wasm_module.proofs.skip.skip_tag.Goals as goal

pub returns-in_err-read_u8 : goal.returns-in_err-read_u8
returns-in_err-read_u8 c =
    let h = c.in_err-read_u8.ensures in
    failed IsTag TagFault _ _ c.from_residual.ensures.1
    (first_fails IsByte (λ attribute. SomeOf (EncodesUnsigned 32)) EndFault (λ attribute. U32Fault) (h.1, h.2))

pub returns-in_err-read_var_u32 : goal.returns-in_err-read_var_u32
returns-in_err-read_var_u32 c =
    let h = c.in_err-read_var_u32.ensures in
    failed IsTag TagFault _ _ c.from_residual-in_err-read_var_u32.ensures.1
    (second_fails IsByte (λ attribute. SomeOf (EncodesUnsigned 32)) EndFault (λ attribute. U32Fault) byte_prefix_code c.in_ok-read_u8.ensures
    (some_refused (EncodesUnsigned 32) U32Fault (h.1, h.2)))

pub returns : goal.returns
returns c =
    then_read IsByte (λ attribute. SomeOf (EncodesUnsigned 32)) {y = tt} c.in_ok-read_u8.ensures (some_read (EncodesUnsigned 32) c.in_ok-read_var_u32.ensures)
