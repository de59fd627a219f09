use Rattle.std.proofs.Common.{◌≡◌, false}
use Rattle.wasm_index_names.specs.Giving.{GivesFirst}
use Rattle.wasm_index_names.proofs.items.give_items.Given as goal

abbrev pub invariant-items : goal.invariant-items
invariant-items g l = GivesFirst g.T.Read.grammar g.T.Gives.gives l.fn.section l.items l.fn.state l.state × (l.items.refused ≡ false)
