use Rattle.std.proofs.Common.{◌↔◌}
use Rattle.wasm_subtypes.specs.Descent.{Descends}
use Rattle.wasm_subtypes.specs.Types.{identity, supertype}
use Rattle.wasm_subtypes.proofs.type_list.TypeList.is_subtype.Given as goal

abbrev pub invariant-up : goal.invariant-up
invariant-up l = Descends (identity l.types) (supertype l.types) l.current l.of ↔ Descends (identity l.types) (supertype l.types) l.index l.of

abbrev pub decreases-up : goal.decreases-up
decreases-up l = l.current
