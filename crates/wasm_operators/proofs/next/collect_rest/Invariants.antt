use Rattle.std.proofs.Common.{length, ◌≤◌}
use Rattle.std.specs.Vec.{vec_capacity}
use Rattle.wasm_below.specs.Source.{rest}
use Rattle.wasm_operators.specs.Expression.{Placed}
use Rattle.wasm_operators.specs.Collecting.{Collects, GrowsAsFilled}
use Rattle.wasm_operators.specs.Next.{state_of}
use Rattle.wasm_operators.specs.Reading.{TakesOperators}
use Rattle.wasm_operators.proofs.next.collect_rest.Given as goal

-- The items are made of the operators read so far, and the capacity has grown as they fill it.
abbrev pub invariant-operators : goal.invariant-operators
invariant-operators g l = (placed : Placed) × Collects g.T.HoldOperator.holds l.fn.list.items.items l.list.items.items placed × TakesOperators (state_of l.fn.reader l.fn.control) (state_of l.reader l.control) placed × (vec_capacity l.fn.list.items ≤ vec_capacity l.list.items) ×
    GrowsAsFilled (vec_capacity l.fn.list.items) (length l.list.items.items) (vec_capacity l.list.items)

abbrev pub decreases-operators : goal.decreases-operators
decreases-operators g l = length (rest l.reader)
