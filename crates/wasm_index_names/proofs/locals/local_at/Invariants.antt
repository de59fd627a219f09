use Rattle.std.proofs.Common.{◌≡◌, length}
use Rattle.wasm_index_names.specs.Lists.{local_at}
use Rattle.wasm_index_names.proofs.locals.local_at.Given as goal

abbrev pub invariant-locals : goal.invariant-locals
invariant-locals l = local_at l.fn.names l.index ≡ local_at l.left l.index

abbrev pub decreases-locals : goal.decreases-locals
decreases-locals l = length l.left
