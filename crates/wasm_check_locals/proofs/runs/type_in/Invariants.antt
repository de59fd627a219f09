use Rattle.std.proofs.Common.{◌≤◌, ◌-◌, length}
use Rattle.wasm_check_locals.specs.Runs.{EndBefore, EndsAfter}
use Rattle.wasm_check_locals.proofs.runs.type_in.Given as goal

abbrev pub invariant-search : goal.invariant-search
invariant-search l = (l.low ≤ l.high) × (l.high ≤ length l.runs) × EndBefore l.runs l.low l.index × EndsAfter l.runs l.high l.index

abbrev pub decreases-search : goal.decreases-search
decreases-search l = l.high - l.low
