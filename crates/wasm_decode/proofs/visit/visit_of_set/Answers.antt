use Rattle.std.proofs.Common.{Err, sym, subst}
use Rattle.wasm_decode.specs.OperatorSets.{EncodesOf, FaultOf, DecodesSetIn}
use Rattle.wasm_decode.proofs.DecodingLemmas.{occurs, from_start, visited_in, without_opcode}
use Rattle.wasm_decode.proofs.visit.visit_of_set.Goals as goal

pub returns-then-code-lt32 : goal.returns-then-code-lt32
returns-then-code-lt32 g c =
    let set = g.S.OperatorSet.set in
    let r = c.args.reader.now in
    let k = c.in-Some.frame in
    let call = c.visit_below_0x20 in
    let s = occurs r c.read_u8.new.self c.in-Ok.code c.current_position-start.result c.in-Ok.ensures c.current_position-start.ensures in
    subst (λ z. DecodesSetIn set g.V.Visitor.visits z call.result r call.new.reader c.args.v.now call.new.v) (sym c.in-Some.is)
    (visited_in g.V.Visitor.visits (EncodesOf set r.features) (FaultOf set r.features) k r call.new.reader c.args.v.now call.new.v call.result
    (from_start g.V.Visitor.visits (EncodesOf set) (FaultOf set) k c.current_position-start.result r c.read_u8.new.self call.new.reader c.args.v.now call.new.v
    call.result s.0 (call.ensures set)))

pub returns-else-code-lt32 : goal.returns-else-code-lt32
returns-else-code-lt32 g c =
    let set = g.S.OperatorSet.set in
    let r = c.args.reader.now in
    let k = c.in-Some.frame in
    let call = c.visit_after_opcode in
    let s = occurs r c.read_u8.new.self c.in-Ok.code c.current_position-start.result c.in-Ok.ensures c.current_position-start.ensures in
    subst (λ z. DecodesSetIn set g.V.Visitor.visits z call.result r call.new.reader c.args.v.now call.new.v) (sym c.in-Some.is)
    (visited_in g.V.Visitor.visits (EncodesOf set r.features) (FaultOf set r.features) k r call.new.reader c.args.v.now call.new.v call.result
    (from_start g.V.Visitor.visits (EncodesOf set) (FaultOf set) k c.current_position-start.result r c.read_u8.new.self call.new.reader c.args.v.now call.new.v
    call.result s.0 call.ensures))

pub returns-in-Err : goal.returns-in-Err
returns-in-Err g c =
    let set = g.S.OperatorSet.set in
    subst (λ z. DecodesSetIn set g.V.Visitor.visits z (Err c.in-Err.e) c.args.reader.now c.read_u8.new.self c.args.v.now c.args.v.now) (sym c.in-Some.is)
    (without_opcode set g.V.Visitor.visits c.in-Some.frame c.in-Err.e c.args.reader.now c.read_u8.new.self c.args.v.now c.in-Err.ensures)
