use Rattle.wasm_encode_constants.proofs.BytesReads.{constant_left, constant_fails}
use Rattle.wasm_encode_constants.proofs.bytes.check_constant.Goals as goal

pub returns-else-eof-clause-reason : goal.returns-else-eof-clause-reason
returns-else-eof-clause-reason c = λ known.
    constant_left c.args.features c.args.bytes.now c.in-Ok.field-0 c.new_features-reader.ensures c.in-Ok.ensures.reads (λ h. cc (c.eof.ensures.1 h, c.if-eof.false))

pub returns-in-Err-clause-reason : goal.returns-in-Err-clause-reason
returns-in-Err-clause-reason c = λ known.
    constant_fails c.args.features c.args.bytes.now c.in-Err.e c.new_features-reader.ensures c.in-Err.ensures.reads.1 c.message.ensures known
