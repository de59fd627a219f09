use Rattle.wasm_sections.proofs.AllItems.{HasItems}
use Rattle.wasm_sections.proofs.whole.read_items.Given as goal

abbrev pub invariant-items : goal.invariant-items
invariant-items g l = HasItems g.T.Read.grammar l.fn.contents l.items l.found.items
