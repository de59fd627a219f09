use Rattle.std.proofs.Common.{◌≡◌, take}
use Rattle.wasm_operators.specs.Expression.{operators}
use Rattle.uses.proofs.same.same_tree.Given as goal

abbrev pub invariant-loop-index : goal.invariant-loop-index
invariant-loop-index l = operators (take l.index l.fn.first) ≡ operators (take l.index l.fn.second)
