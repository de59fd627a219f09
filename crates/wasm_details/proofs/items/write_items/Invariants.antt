use Rattle.std.proofs.Common.{◌≡◌, false}
use Rattle.wasm_details.specs.Items.{WritesItems}
use Rattle.wasm_details.proofs.items.write_items.Given as goal

abbrev pub invariant-items : goal.invariant-items
invariant-items g l =
    WritesItems g.T.Read.grammar (g.T.Details.lists l.fn.context) l.fn.section l.fn.place l.reached l.items (g.W.Write.contents l.fn.writer)
    (g.W.Write.contents l.writer) × (l.items.refused ≡ false)
