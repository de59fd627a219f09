use Rattle.wasm_module.proofs.Many.{IsOnTheWay}
use Rattle.wasm_module.proofs.list.read_length.Given as goal

abbrev pub invariant-loop-item : goal.invariant-loop-item
invariant-loop-item g l = IsOnTheWay g.T.Item.encodes g.T.Item.fault l.length l._item l.initial.reader l.reader
