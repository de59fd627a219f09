use Rattle.std.proofs.Common.{◌≡◌, [], subst, ap, ◌∙◌, Err}
use Rattle.std.specs.Prelude.{OnOk, IfErr}
use Rattle.wasm_below.specs.Source.{Reader, rest}
use Rattle.wasm_operators.specs.Collecting.{Collects}
use Rattle.wasm_operators.specs.Next.{collecting, state_of}
use Rattle.wasm_operators.specs.Reading.{StopsRun}
use Rattle.wasm_operators.proofs.Runs.{run_ended, run_from}
use Rattle.wasm_operators.proofs.operators.OperatorsReader.collect_to_end.Goals as goal

pub returns-in-Ok-clause-runs : goal.returns-in-Ok-clause-runs
returns-in-Ok-clause-runs g c =
    let call = c.collect_rest-outcome in
    let start = state_of c.clone-reader.result c.self.inside.control in
    let new = state_of call.new.reader call.new.control in
    let same : start ≡ c.args.self.now =
    ap (λ (r : Reader). state_of r c.self.inside.control) c.clone-reader.ensures ∙ c.self.view_is in
    run_from collecting (Collects g.T.HoldOperator.holds c.args.list.now.items.items call.new.list.items.items) c.finish.result start c.args.self.now new same call.ensures.collected
    (run_ended collecting c.finish.result new (subst (λ r. OnOk r (rest new.reader ≡ [])) c.in-Ok.is call.ensures.end) c.finish.ensures)

pub returns-in-Err-clause-runs : goal.returns-in-Err-clause-runs
returns-in-Err-clause-runs g c =
    let call = c.collect_rest-outcome in
    let start = state_of c.clone-reader.result c.self.inside.control in
    let new = state_of call.new.reader call.new.control in
    let same : start ≡ c.args.self.now =
    ap (λ (r : Reader). state_of r c.self.inside.control) c.clone-reader.ensures ∙ c.self.view_is in
    run_from {X = Unit {0}} collecting (Collects g.T.HoldOperator.holds c.args.list.now.items.items call.new.list.items.items) (Err c.in-Err.e) start c.args.self.now new same call.ensures.collected
    (subst (λ r. IfErr r (λ e. StopsRun collecting e new)) c.in-Err.is call.ensures.stopped)
