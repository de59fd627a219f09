use Rattle.std.proofs.Common.{arith}
use Rattle.wasm_encode_immediates.proofs.ShortTexts.{not_false, index_written, zero_written, index_fails}
use Rattle.wasm_encode_immediates.proofs.kinds.write_index.Goals as goal

pub returns-then-contains-clause-written : goal.returns-then-contains-clause-written
returns-then-contains-clause-written c =
    (index_written c.args.feature c.args.features c.args.index _ _ (c.contains.ensures.0 c.if-contains.true) c.write_u32.ensures.written, c.write_u32.ensures.capacity)

pub returns-then-index-eq0-clause-written : goal.returns-then-index-eq0-clause-written
returns-then-index-eq0-clause-written c =
    let k = c.push_reserved.ensures.capacity in
    (zero_written c.args.feature c.args.features c.args.index _ _ (λ h. not_false (c.contains.ensures.1 h) c.if-contains.false) c.if-index-eq0.true c.push_reserved.ensures.items, omega (arith, k))

pub returns-clause-written : goal.returns-clause-written
returns-clause-written c =
    (index_fails c.args.feature c.args.features c.args.index _ (λ h. not_false (c.contains.ensures.1 h) c.if-contains.false) c.if-index-eq0.false, omega arith)
