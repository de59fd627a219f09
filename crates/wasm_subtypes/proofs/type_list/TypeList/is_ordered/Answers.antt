use Rattle.std.proofs.Common.{◌≡◌, true, subst}
use Rattle.wasm_typing.specs.Matching.{IsOrder}
use Rattle.wasm_subtypes.specs.Descent.{Descends, descends}
use Rattle.wasm_subtypes.specs.Types.{identity, supertype, order_of}
use Rattle.wasm_subtypes.proofs.Ascent.{ordered, decided}
use Rattle.wasm_subtypes.proofs.type_list.TypeList.is_ordered.Goals as goal

pub returns-clause-order : goal.returns-clause-order
returns-clause-order c = subst (λ l. IsOrder (order_of l)) c.self.view_is (ordered c.self.inside.items.items c.self.invariant)

pub returns-clause-decides : goal.returns-clause-decides
returns-clause-decides c = λ i j.
    subst (λ l. (descends (identity l) (supertype l) i j ≡ true → Descends (identity l) (supertype l) i j) × (Descends (identity l) (supertype l) i j → descends (identity l) (supertype l) i j ≡ true))
    c.self.view_is (decided c.self.inside.items.items c.self.invariant i j)
