use Rattle.std.proofs.Common.{◌≡◌, [], length, IsTrue}
use Rattle.wasm_below.specs.Source.{rest}
use Rattle.wasm_operators.specs.Expression.{Placed}
use Rattle.wasm_operators.specs.Sets.{VisitedOf}
use Rattle.wasm_operators.specs.Next.{state_of}
use Rattle.wasm_operators.specs.Reading.{TakesOperators}
use Rattle.wasm_operators.proofs.next.visit_rest.Given as goal

abbrev pub invariant-visits : goal.invariant-visits
invariant-visits g l =
    ((placed : Placed) × VisitedOf g.S.OperatorSet.set g.V.Visitor.visits l.fn.v l.v placed × TakesOperators (state_of l.fn.reader l.fn.control) (state_of l.reader l.control) placed) ×
    ((IsTrue l.more → rest l.reader ≡ [] → ⊥) × ((IsTrue l.more → ⊥) → rest l.reader ≡ []))

abbrev pub decreases-visits : goal.decreases-visits
decreases-visits g l = length (rest l.reader)
