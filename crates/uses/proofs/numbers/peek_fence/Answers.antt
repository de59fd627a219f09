use Rattle.wasm_operators.specs.imm.Orderings.{EncodesFence, FenceFault}
use Rattle.uses.proofs.Codes.{reads_from_known, fault_from_known}
use Rattle.uses.proofs.numbers.peek_fence.Goals as goal

pub returns-clause-reads : goal.returns-clause-reads
returns-clause-reads c = λ value text more parts known.
    let f = c.args.reader.now.features in
    let reads = rw c.clone.ensures at c.read_fence.ensures in
    let code = rw c.features.ensures at c.orderings.ensures.fence in
    reads_from_known c.args.start (EncodesFence f) (FenceFault f c.args.start) c.read_fence.result c.args.reader.now _ value text more code reads parts known

pub returns-clause-refused : goal.returns-clause-refused
returns-clause-refused c = λ m offset known.
    let f = c.args.reader.now.features in
    let reads = rw c.clone.ensures at c.read_fence.ensures in
    let determines = rw c.features-2.ensures at c.short_refusals.ensures.fence in
    fault_from_known c.args.start (EncodesFence f) (FenceFault f c.args.start) c.read_fence.result c.args.reader.now _ m offset (determines c.args.start) reads known
