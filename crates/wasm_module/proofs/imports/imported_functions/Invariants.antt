use Rattle.std.proofs.Common.{◌≡◌, ◌≤◌, List, length}
use Rattle.std.specs.List.{All}
use Rattle.wasm_module.specs.Imports.{ImportParts, EncodesImport}
use Rattle.wasm_module.specs.Items.{ItemsOccur}
use Rattle.wasm_module.specs.ModuleFunctions.{functions_in, IsKnownImport}
use Rattle.wasm_module.proofs.imports.imported_functions.Given as goal

abbrev pub invariant-loop-import : goal.invariant-loop-import
invariant-loop-import l = (imports : List ImportParts) × ItemsOccur EncodesImport l.initial.reader imports l.reader × (length imports ≡ l._import) ×
    All IsKnownImport imports × (l.functions ≡ functions_in imports) × (l.functions ≤ l._import)
