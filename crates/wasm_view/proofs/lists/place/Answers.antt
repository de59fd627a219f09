use Rattle.std.proofs.Common.{refl, ◌-◌}
use Rattle.wasm_view.proofs.Placed.{member_set, member_after, member_before}
use Rattle.wasm_view.proofs.lists.place.Goals as goal
use Rattle.wasm_view.proofs.lists.place.Goals.{else-index-from-via-then-index-from+else-index-from-2, else-index-from-via-else-index-from}

pub returns-then-index-from-2 : goal.returns-then-index-from-2
returns-then-index-from-2 g c = member_set c.args.member c.args.index c.args.from (c.args.index - c.args.from) c.args.out.now _ c.if-index-from.true refl c.if-index-from-2.true refl

pub returns-else-index-from : goal.returns-else-index-from
returns-else-index-from g c = elim c.else-index-from.branch [
  | else-index-from-via-then-index-from+else-index-from-2 w ↦
      member_after c.args.member c.args.index c.args.from (c.args.index - c.args.from) c.args.out.now w.if-index-from.true refl w.if-index-from-2.false
  | else-index-from-via-else-index-from w ↦ member_before c.args.member c.args.index c.args.from c.args.out.now w.if-index-from.false
]
