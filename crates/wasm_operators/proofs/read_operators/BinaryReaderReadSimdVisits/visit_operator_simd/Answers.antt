use Rattle.std.proofs.Common.{subst}
use Rattle.wasm_decode_opcodes.specs.Decoding.{DecodesIn}
use Rattle.wasm_operators.proofs.read_operators.BinaryReaderReadSimdVisits.visit_operator_simd.Goals as goal

pub returns : goal.returns
returns g c =
    subst (λ k. DecodesIn g.V.Visitor.visits k c.visit_operator_simd.result c.args.self.now c.visit_operator_simd.new.reader c.args.v.now c.visit_operator_simd.new.v)
    c.current_frame-frame.ensures c.visit_operator_simd.ensures
