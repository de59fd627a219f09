use Rattle.std.proofs.Common.{◌+◌, arith}
use Rattle.wasm_imm.proofs.PassedTargets.{targets_after, targets_within}
use Rattle.wasm_imm.proofs.branch_table.pass_targets.Goals as goal

pub loop-targets-preserved : goal.loop-targets-preserved
loop-targets-preserved c =
    let l = c.loop-targets in
    let after = l.position + c.in-Some.size in
    let one = c.in-Some.ensures.target in (
      omega (arith, l.invariant.0),
      targets_within 1 c.args.bytes.now l.position after l.invariant.1 one,
      targets_after l.targets 1 c.args.bytes.now 0 l.position after l.invariant.2 one,
    )
