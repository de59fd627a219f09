-- Written by tools/lists.py from tools/operators.tsv.
use Rattle.std.proofs.Common.{subst}
use Rattle.wasm_below.specs.Source.{at_position}
use Rattle.wasm_decode_opcodes.specs.Allowed.{EncodesAllowed}
use Rattle.wasm_decode_opcodes.specs.Decoding.{Decodes}
use Rattle.wasm_decode_opcodes.specs.OperatorFaults.{OperatorFault}
use Rattle.wasm_visit.proofs.Passing.{through_box}
use Rattle.wasm_visit.proofs.routes.one_byte.ThroughRouteOneByteBox.decode_below_0x20.Goals as goal

pub returns : goal.returns
returns g c =
    let r = c.args.reader.now in
    through_box g.V.Visitor.visits (EncodesAllowed r.features c.args.frame) (OperatorFault r.features c.args.frame) c.decode_below_0x20.result (at_position r c.args.start) c.decode_below_0x20.new.reader c.args.v.now c.decode_below_0x20.new.self
    (subst (λ v. Decodes g.V.Visitor.visits (EncodesAllowed r.features c.args.frame) (OperatorFault r.features c.args.frame) c.decode_below_0x20.result (at_position r c.args.start) c.decode_below_0x20.new.reader v c.decode_below_0x20.new.self) c.deref_mut.ensures.value c.decode_below_0x20.ensures)
