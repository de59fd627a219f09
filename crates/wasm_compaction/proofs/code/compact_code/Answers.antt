use Rattle.std.proofs.Common.{ap}
use Rattle.std.proofs.lemmas.Result.{err_from_is_err_and}
use Rattle.wasm_below.specs.Source.{Reader}
use Rattle.wasm_compaction.proofs.Bodies.{one_more_done, after_bodies}
use Rattle.wasm_compaction.proofs.Refused.{next_refused}
use Rattle.wasm_compaction.proofs.code.compact_code.Goals as goal

pub returns-in_err-compact_next-clause-refuses : goal.returns-in_err-compact_next-clause-refuses
returns-in_err-compact_next-clause-refuses c =
    let p = err_from_is_err_and c.from_residual.result c.from_residual.ensures.1 in
    rw (p.1, p.2) (next_refused _ c.in-Ok.count c.bodies.index c.args.contents c.bodies.reader
    (after_bodies c.args.contents.features c.in-Ok.count c.bodies.index c.args.contents c.read_var_u32.new.self c.bodies.reader c.write_u32.new.out.items
    c.bodies.out.items c.in-Ok.ensures c.bodies.invariant)
    c.bodies-test.true c.in_err-compact_next.ensures.refuses)

pub bodies-preserved : goal.bodies-preserved
bodies-preserved c =
    one_more_done c.args.contents.features c.bodies.index c.read_var_u32.new.self c.bodies.reader c.compact_next.new.reader c.write_u32.new.out.items
    c.bodies.out.items c.compact_next.new.out.items c.bodies.invariant c.in_ok-compact_next.ensures.compacts
    (ap (λ (r : Reader). r.features) c.in-Ok.ensures.2.moved)
