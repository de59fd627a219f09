use Rattle.std.proofs.Common.{◌≡◌, List, length}
use Rattle.std.specs.List.{All}
use Rattle.wasm_module.specs.declared.composite.CompositeType.{CompositeType}
use Rattle.wasm_module.specs.Parameters.{RecTypesOccur, AreKnownTypes, parameters_in}
use Rattle.wasm_module.proofs.types.parameter_counts.Given as goal

abbrev pub invariant-loop-rec_type : goal.invariant-loop-rec_type
invariant-loop-rec_type l = (rec_types : List (List CompositeType)) × RecTypesOccur l.initial.reader rec_types l.reader × (length rec_types ≡ l._rec_type) × All AreKnownTypes rec_types ×
    (l.counts.items ≡ parameters_in rec_types)
