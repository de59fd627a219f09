use Rattle.std.proofs.Common.{◌≡◌, List, length}
use Rattle.std.specs.Prelude.{flat_map}
use Rattle.wasm_module.specs.Imports.{ImportParts, EncodesImport}
use Rattle.wasm_module.specs.Items.{ItemsOccur}
use Rattle.wasm_module.specs.FunctionNames.{bytes_of, function_name}
use Rattle.wasm_module.proofs.imports.import_names.Given as goal

-- The names of the imports read so far.
abbrev pub invariant-loop-import : goal.invariant-loop-import
invariant-loop-import l = (imports : List ImportParts) × ItemsOccur EncodesImport l.initial.reader imports l.reader × (length imports ≡ l._import) ×
    (bytes_of l.names.items ≡ flat_map function_name imports)
