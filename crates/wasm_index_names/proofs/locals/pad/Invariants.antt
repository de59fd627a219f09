use Rattle.std.proofs.Common.{◌≡◌, [], ◌++◌, replicate}
use Rattle.wasm_index_names.proofs.locals.pad.Given as goal

abbrev pub invariant-loop-list : goal.invariant-loop-list
invariant-loop-list l = l.lists.items ≡ l.initial.lists.items ++ replicate l._list []
