use Rattle.std.proofs.Common.{◌≡◌, ◌++◌, List, length, map}
use Rattle.std.specs.List.{All}
use Rattle.wasm_module.specs.Types.{EncodesSubType}
use Rattle.wasm_module.specs.declared.composite.CompositeType.{CompositeType}
use Rattle.wasm_module.specs.Items.{ItemsOccur}
use Rattle.wasm_module.specs.Parameters.{parameter_count, IsKnownType}
use Rattle.wasm_module.proofs.types.read_rec_type.Given as goal

abbrev pub invariant-loop-ty : goal.invariant-loop-ty
invariant-loop-ty l = (types : List CompositeType) × ItemsOccur EncodesSubType l.initial.reader types l.reader × (length types ≡ l._ty) × All IsKnownType types ×
    (l.counts.items ≡ l.initial.counts.items ++ map parameter_count types)
