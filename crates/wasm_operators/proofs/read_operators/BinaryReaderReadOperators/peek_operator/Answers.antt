use Rattle.std.proofs.Common.{subst}
use Rattle.wasm_operators.specs.Single.{PeeksOperator}
use Rattle.wasm_operators.proofs.read_operators.BinaryReaderReadOperators.peek_operator.Goals as goal

pub returns : goal.returns
returns g c =
    let copy = c.clone-ahead.result in
    let frame = g.S.FrameStack.frame c.args.stack.now in
    let read = subst (λ k. PeeksOperator k c.read_operator.result copy) c.current_frame.ensures (c.read_operator.new.reader, c.read_operator.ensures) in
    subst (λ r. PeeksOperator frame c.read_operator.result r) c.clone-ahead.ensures read
