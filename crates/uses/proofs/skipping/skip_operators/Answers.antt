use Rattle.std.proofs.Common.{arith}
use Rattle.std.proofs.lemmas.Result.{err_from_is_err_and}
use Rattle.uses.proofs.Skipped.{skips_none, skips_on, skips_refused}
use Rattle.uses.proofs.skipping.skip_operators.Goals as goal

pub loop-operator-init : goal.loop-operator-init
loop-operator-init c = skips_none c.args.operators.now c.single_reads.ensures.first

pub loop-operator-preserved : goal.loop-operator-preserved
loop-operator-preserved c =
    skips_on _ c.loop-operator._operator c.args.operators.now c.loop-operator.operators c.read.new.self c.one_depth.ensures.any c.memory_adds_up.ensures
    c.single_reads.ensures.next c.loop-operator.invariant c.in_ok-read.ensures

pub returns-in_err-read : goal.returns-in_err-read
returns-in_err-read c =
    let h = skips_refused c.loop-operator._operator c.args.operators.now c.loop-operator.operators c.read.new.self c.memory_adds_up.ensures
    c.single_reads.ensures.refused c.loop-operator.invariant c.in_err-read.ensures.0 in
    let p = err_from_is_err_and c.from_residual.result c.from_residual.ensures.1 in
    record {
      skipped = rw p.1 tt;
      refused = rw (p.1, p.2) (h.placed, omega (arith, h.many), h.taken, c.in_err-read.ensures.1);
      depth = h.depth;
      memory = h.memory;
    }

pub returns : goal.returns
returns c =
    let h = c.loop-operator.invariant in
    record { skipped = (h.placed, omega (arith, h.many), h.taken); refused = tt; depth = h.depth; memory = h.memory }
