use Rattle.std.proofs.Common.{sym, subst}
use Rattle.wasm_subtypes.specs.Keys.{AreIndexed}
use Rattle.wasm_subtypes.proofs.Indexed.{indexed_again}
use Rattle.wasm_subtypes.proofs.types.add_again.Goals as goal

pub invariant_of-result : goal.invariant_of-result
invariant_of-result c =
    subst (λ l. AreIndexed l c.args.starts.entries) (sym c.in-Ok.ensures.placed)
    (indexed_again c.args.list c.args.start c.args.group.items c.args.starts.entries c.requires.indexed c.requires.before)
