use Rattle.std.proofs.Common.{subst}
use Rattle.wasm_operators.specs.below.Source.{reader_of}
use Rattle.wasm_c.specs.Reads.{FindsBody}
use Rattle.wasm_c.proofs.wasm_read_body.Goals as goal

pub returns-in-Ok-clause-body : goal.returns-in-Ok-clause-body
returns-in-Ok-clause-body c = λ known within.
    let found = c.read_body-found.ensures in
    let read = c.read_body-found.result in
    let bytes = c.args.bytes.now in
    let here =
    subst (λ features. FindsBody read.end (reader_of features c.args.offset bytes) read.count c.args.out.now c.read_body-found.new.out found.0)
    c.in-Ok.ensures.known.2 found.1 in
    (found.0, (read.end, c.of_end.ensures, here))

pub returns-in-Err-clause-body : goal.returns-in-Err-clause-body
returns-in-Err-clause-body c = λ known within. absurd (cc (c.in-Err.ensures.fits known within))
