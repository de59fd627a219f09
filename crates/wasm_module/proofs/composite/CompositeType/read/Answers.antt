use Rattle.wasm_below.specs.Source.{IsByte, EndFault}
use Rattle.wasm_module.specs.Types.{EncodesSubAfterByte, SubFaultAfterByte, EncodesSubType, SubTypeFault}
use Rattle.wasm_below.proofs.Ahead.{first_fails, second_fails, stays, advances}
use Rattle.wasm_below.proofs.PrefixCode.{byte_prefix_code}
use Rattle.wasm_module.proofs.Sequences.{then_read}
use Rattle.wasm_module.proofs.composite.CompositeType.read.Goals as goal

pub returns-in_err-kind : goal.returns-in_err-kind
returns-in_err-kind c =
    let h = c.in_err-kind.ensures in
    stays EncodesSubType SubTypeFault _ c.clone-ahead.ensures c.from_residual.ensures.1
    (first_fails IsByte EncodesSubAfterByte EndFault SubFaultAfterByte (h.1, h.2))

pub returns-in_err-ty : goal.returns-in_err-ty
returns-in_err-ty c =
    stays EncodesSubType SubTypeFault _ c.clone-ahead.ensures c.from_residual-in_err-ty.ensures.1
    (second_fails IsByte EncodesSubAfterByte EndFault SubFaultAfterByte byte_prefix_code c.in_ok-kind.ensures
    c.in_err-ty.ensures)

pub returns : goal.returns
returns c =
    advances EncodesSubType c.clone-ahead.ensures
    (then_read IsByte EncodesSubAfterByte c.in_ok-kind.ensures c.in_ok-ty.ensures)
