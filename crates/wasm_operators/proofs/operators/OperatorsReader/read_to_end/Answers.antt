use Rattle.std.proofs.Common.{subst}
use Rattle.wasm_operators.specs.Collecting.{Collects}
use Rattle.wasm_operators.proofs.operators.OperatorsReader.read_to_end.Goals as goal

pub returns-clause-runs : goal.returns-clause-runs
returns-clause-runs g c =
    let r = c.collect_to_end-outcome.ensures.runs in (
      r.0,
      subst (λ old. Collects g.T.HoldOperator.holds old.items c.collect_to_end-outcome.new.list.items.items r.0) c.replace-items.ensures.value r.1,
      r.2,
      r.3,
    )
