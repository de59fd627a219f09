use Rattle.std.proofs.Common.{arith}
use Rattle.wasm_encode_view.specs.Sections.{EncodesLocals}
use Rattle.wasm_encode_view.proofs.Sections.{each_put, none_of_each}
use Rattle.wasm_encode_view.proofs.put.put_each.Goals as goal

pub returns-in-None-clause-puts : goal.returns-in-None-clause-puts
returns-in-None-clause-puts c = none_of_each EncodesLocals c.args.locals.now c.locals.local-index _ c.locals-test.true c.in-None.ensures.puts

pub locals-preserved : goal.locals-preserved
locals-preserved c =
    let few = c.locals.invariant.few in
    let more = c.in-Some.ensures.few in
    record {
      puts = each_put EncodesLocals c.args.locals.now c.locals.local-index _ c.args.at c.locals.next c.in-Some.end c.args.out.now c.locals.out c.put_one.new.out c.locals-test.true
          c.locals.invariant.puts c.in-Some.ensures.puts;
      few = omega (arith, few, more);
    }
