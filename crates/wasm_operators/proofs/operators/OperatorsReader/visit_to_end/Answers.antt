use Rattle.std.proofs.Common.{◌≡◌, [], sym, subst, ap, ◌∙◌, Err}
use Rattle.std.specs.Prelude.{OnOk, IfErr}
use Rattle.wasm_below.specs.Source.{Reader, rest}
use Rattle.wasm_operators.specs.Next.{state_of}
use Rattle.wasm_operators.specs.Reading.{StopsRun}
use Rattle.wasm_operators.specs.Sets.{decoder_of, VisitedOf}
use Rattle.wasm_operators.proofs.Runs.{run_ended, run_from}
use Rattle.wasm_operators.proofs.operators.OperatorsReader.visit_to_end.Goals as goal

pub returns-in-Ok : goal.returns-in-Ok
returns-in-Ok g c =
    let set = g.S.OperatorSet.set in
    let call = c.visit_rest-outcome in
    let start = state_of c.clone-reader.result c.replace-control.result in
    let new = state_of call.new.reader call.new.control in
    let same : start ≡ c.args.self.now =
    subst (λ (r : Reader). state_of r c.replace-control.result ≡ state_of c.self.inside.reader c.self.inside.control) (sym c.clone-reader.ensures)
    (ap (state_of c.self.inside.reader) c.replace-control.ensures.value) ∙ c.self.view_is in
    run_from (decoder_of set) (VisitedOf set g.V.Visitor.visits c.args.v.now call.new.v) c.finish.result start c.args.self.now new same call.ensures.visited
    (run_ended (decoder_of set) c.finish.result new (subst (λ r. OnOk r (rest new.reader ≡ [])) c.in-Ok.is call.ensures.end) c.finish.ensures)

pub returns-in-Err : goal.returns-in-Err
returns-in-Err g c =
    let set = g.S.OperatorSet.set in
    let call = c.visit_rest-outcome in
    let start = state_of c.clone-reader.result c.replace-control.result in
    let new = state_of call.new.reader call.new.control in
    let same : start ≡ c.args.self.now =
    subst (λ (r : Reader). state_of r c.replace-control.result ≡ state_of c.self.inside.reader c.self.inside.control) (sym c.clone-reader.ensures)
    (ap (state_of c.self.inside.reader) c.replace-control.ensures.value) ∙ c.self.view_is in
    run_from {X = Unit {0}} (decoder_of set) (VisitedOf set g.V.Visitor.visits c.args.v.now call.new.v) (Err c.in-Err.e) start c.args.self.now new same call.ensures.visited
    (subst (λ r. IfErr r (λ e. StopsRun (decoder_of set) e new)) c.in-Err.is call.ensures.stopped)
