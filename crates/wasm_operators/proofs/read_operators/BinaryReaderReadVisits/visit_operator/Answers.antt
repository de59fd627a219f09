use Rattle.std.proofs.Common.{subst}
use Rattle.wasm_decode_opcodes.specs.Decoding.{DecodesScalarIn}
use Rattle.wasm_operators.proofs.read_operators.BinaryReaderReadVisits.visit_operator.Goals as goal

pub returns : goal.returns
returns g c =
    subst (λ k. DecodesScalarIn g.V.Visitor.visits k c.visit_operator.result c.args.self.now c.visit_operator.new.reader c.args.v.now c.visit_operator.new.v)
    c.current_frame-frame.ensures c.visit_operator.ensures
