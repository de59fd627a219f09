use Rattle.std.proofs.Common.{arith}
use Rattle.wasm_imm.proofs.PassedTargets.{short_more}
use Rattle.wasm_imm.proofs.branch_table.are_four_short.Goals as goal

pub loop-at-preserved : goal.loop-at-preserved
loop-at-preserved c =
    let l = c.loop-at in
    (omega (arith, l.invariant.0), short_more c.args.bytes.now c.args.position l.at l.bits l.invariant.0 (omega arith) l.invariant.1)
