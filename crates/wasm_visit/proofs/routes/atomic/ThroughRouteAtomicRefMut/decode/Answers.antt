-- Written by tools/lists.py from tools/operators.tsv.
use Rattle.wasm_below.specs.Source.{at_position}
use Rattle.wasm_decode_opcodes.specs.Allowed.{EncodesAllowed}
use Rattle.wasm_decode_opcodes.specs.OperatorFaults.{OperatorFault}
use Rattle.wasm_visit.proofs.Passing.{through_reference}
use Rattle.wasm_visit.proofs.routes.atomic.ThroughRouteAtomicRefMut.decode.Goals as goal

pub returns : goal.returns
returns g c k =
    let r = c.args.reader.now in
    through_reference g.V.Visitor.visits (EncodesAllowed r.features k) (OperatorFault r.features k) c.decode_atomic.result (at_position r c.args.start) c.decode_atomic.new.reader c.args.v.now c.decode_atomic.new.self
    (c.decode_atomic.ensures k)
