use Rattle.std.proofs.Common.{Some}
use Rattle.wasm_decode_opcodes.specs.OperatorFaults.{OperatorFault}
use Rattle.wasm_decode_opcodes.proofs.OperatorLemmas.{visited_without_immediates}
use Rattle.wasm_decode.proofs.after.simd_of.Goals as goal

pub visit_without_immediates-requires : goal.visit_without_immediates-requires
visit_without_immediates-requires g c = c.has_no_immediates.ensures.without c.if-has_no_immediates.true

pub returns-then-has_no_immediates : goal.returns-then-has_no_immediates
returns-then-has_no_immediates g c k =
    let r = c.args.reader.now in
    let is = c.has_no_immediates.ensures.without c.if-has_no_immediates.true in
    visited_without_immediates g.V.Visitor.visits (OperatorFault r.features k) k (Some 0xfd) c.args.code c.args.start r c.args.v.now c.visit_without_immediates.new.v c.visit_without_immediates.result is c.requires c.visit_without_immediates.ensures
