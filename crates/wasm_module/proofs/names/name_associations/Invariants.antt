use Rattle.std.proofs.Common.{◌≡◌, List, length}
use Rattle.wasm_module.specs.Names.{NameParts, EncodesNameAssociation}
use Rattle.wasm_module.specs.Items.{ItemsOccur}
use Rattle.wasm_module.specs.FunctionNames.{bytes_of, with_names}
use Rattle.wasm_module.proofs.names.name_associations.Given as goal

abbrev pub invariant-loop-name : goal.invariant-loop-name
invariant-loop-name l = (given : List NameParts) × ItemsOccur EncodesNameAssociation l.initial.reader given l.reader × (length given ≡ l._name) ×
    (bytes_of l.names.items ≡ with_names (bytes_of l.initial.names.items) given)
