use Rattle.wasm_write_grammars.proofs.Owing.{given, extends_all}
use Rattle.wasm_encode_constants.specs.ConstantBytes.{ConstantReason}
use Rattle.wasm_encode_constants.proofs.BytesReads.{bytes_lack, bytes_written}
use Rattle.wasm_encode_constants.proofs.bytes.ConstantBytesWrite.append_to.Goals as goal

pub returns-in_err-check_constant : goal.returns-in_err-check_constant
returns-in_err-check_constant c =
    let f = c.args.features in
    given (ConstantReason f) _ c.from_residual.ensures.1 (extends_all _) (λ known. bytes_lack f c.as_slice-bytes.ensures (c.in_err-check_constant.ensures.reason known))

pub returns : goal.returns
returns c = bytes_written c.args.features c.as_slice-bytes.ensures c.in_ok-check_constant.ensures.constant c.in_ok-append_bytes.ensures
