use Rattle.std.proofs.Common.{◌≡◌, map, take, drop}
use Rattle.wasm_view.specs.Lists.{written}
use Rattle.wasm_view.proofs.lists.place_all.Given as goal

abbrev pub invariant-members : goal.invariant-members
invariant-members g l = l.out ≡ written (drop l.fn.from (map g.T.Member.plain (take l.index l.fn.list))) l.fn.out
