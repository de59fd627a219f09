use Rattle.std.proofs.Common.{refl}
use Rattle.wasm_below.specs.Source.{EndFault, IsByte}
use Rattle.wasm_module.specs.Imports.{IsExternTypeAfterByte, EncodesExternTypeAfterByte, ExternTypeFaultAfterByte, EncodesExternType, ExternTypeFault}
use Rattle.wasm_below.proofs.Ahead.{first_fails, second_fails, fails_as, failed}
use Rattle.wasm_below.proofs.PrefixCode.{byte_prefix_code}
use Rattle.wasm_module.proofs.Sequences.{then_read}
use Rattle.wasm_module.proofs.import.read_extern_type.Goals as goal

pub returns-in_err-kind : goal.returns-in_err-kind
returns-in_err-kind c =
    let h = c.in_err-kind.ensures in
    failed EncodesExternType ExternTypeFault _ _ c.from_residual.ensures.1
    (first_fails IsByte EncodesExternTypeAfterByte EndFault ExternTypeFaultAfterByte (h.1, h.2))

pub returns-in_err-skip_extern_type_after_byte : goal.returns-in_err-skip_extern_type_after_byte
returns-in_err-skip_extern_type_after_byte c =
    let kind = c.in_ok-kind.kind in
    let fault = ExternTypeFaultAfterByte kind in
    failed EncodesExternType ExternTypeFault _ _ c.from_residual-in_err-skip_extern_type_after_byte.ensures.1
    (second_fails IsByte EncodesExternTypeAfterByte EndFault ExternTypeFaultAfterByte byte_prefix_code c.in_ok-kind.ensures
    (fails_as (IsExternTypeAfterByte kind) (EncodesExternTypeAfterByte kind) fault fault (λ text z b. (tt, b.1)) (λ f. f) c.in_err-skip_extern_type_after_byte.ensures))

pub returns : goal.returns
returns c =
    let rest = c.in_ok-skip_extern_type_after_byte.ensures in
    then_read IsByte EncodesExternTypeAfterByte c.in_ok-kind.ensures (rest.0, (refl, rest.1), rest.2)
