use Rattle.std.proofs.Common.{◌≡◌, ◌++◌, ◌∷◌, [], refl, sym, subst, rules}
use Rattle.wasm_below.specs.Source.{rest, offset_of}
use Rattle.wasm_decode.specs.OperatorSets.{EncodesOf}
use Rattle.wasm_operators.specs.Sets.{decoder_of, VisitedOf}
use Rattle.wasm_operators.proofs.VisitLemmas.{set_visited_none, set_visited_push}
use Rattle.wasm_operators.proofs.Runs.{ran_start, ran_push, ran_unchanged, run_stops}
use Rattle.wasm_operators.specs.Next.{state_of}
use Rattle.wasm_operators.proofs.DecoderPremises.{set_sound}
use Rattle.wasm_operators.proofs.next.visit_rest.Goals as goal

pub visits-init : goal.visits-init
visits-init g c = (
  ([], set_visited_none g.S.OperatorSet.set g.V.Visitor.visits c.args.v.now, ran_start (state_of c.args.reader.now c.args.control.now)),
  (search rules, search rules),
)

pub visits-preserved : goal.visits-preserved
visits-preserved g c =
    let set = g.S.OperatorSet.set in
    let i = c.visits.invariant.0 in
    let h = c.in-Ok.ensures in
    let s = state_of c.visits.reader c.visits.control in
    let op = h.0 in
    let at = offset_of s.reader in (
      (
        i.0 ++ (op, at) ∷ [],
        set_visited_push set g.V.Visitor.visits i.0 op at c.in-Ok.field-0 c.args.v.now c.visits.v c.visit_next.new.v s.reader.features h.1.kind h.1.text i.1 h.1.encodes h.2,
        ran_push (EncodesOf set) (set_sound set) (state_of c.args.reader.now c.args.control.now) s (state_of c.visit_next.new.reader c.visit_next.new.control) i.0 op i.2 h.1,
      ),
      (search rules, search rules),
    )

pub returns-in-Err-clause-visited : goal.returns-in-Err-clause-visited
returns-in-Err-clause-visited g c =
    let i = c.visits.invariant.0 in
    let h = c.in-Err.ensures in (
      i.0,
      subst (λ w. VisitedOf g.S.OperatorSet.set g.V.Visitor.visits c.args.v.now w i.0) (sym h.1) i.1,
      ran_unchanged (state_of c.args.reader.now c.args.control.now) (state_of c.visits.reader c.visits.control) (state_of c.visit_next.new.reader c.visit_next.new.control) i.0 i.2 h.0,
    )

pub returns-in-Err-clause-stopped : goal.returns-in-Err-clause-stopped
returns-in-Err-clause-stopped g c =
    let h = c.in-Err.ensures in
    let left : rest c.visits.reader ≡ [] → ⊥ = c.visits.invariant.1.0 (search rules) in
    run_stops (decoder_of g.S.OperatorSet.set) c.in-Err.e (state_of c.visits.reader c.visits.control) (state_of c.visit_next.new.reader c.visit_next.new.control) left h.0 h.2

pub returns-clause-end : goal.returns-clause-end
returns-clause-end g c = c.visits.invariant.1.1 (search rules)
