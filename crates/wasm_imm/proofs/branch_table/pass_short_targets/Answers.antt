use Rattle.std.proofs.Common.{◌+◌, arith}
use Rattle.wasm_imm.proofs.PassedTargets.{targets_after}
use Rattle.wasm_imm.proofs.branch_table.pass_short_targets.Goals as goal

pub loop-position-preserved : goal.loop-position-preserved
loop-position-preserved c =
    let l = c.loop-position in
    let p = l.position in (
      omega (arith, l.invariant.0),
      omega (arith, l.invariant.1),
      targets_after p 4 c.args.bytes.now 0 p (p + 4) l.invariant.2 (c.are_four_short.ensures c.if-are_four_short.true),
    )
