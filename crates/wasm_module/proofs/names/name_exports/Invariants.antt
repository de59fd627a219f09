use Rattle.std.proofs.Common.{◌≡◌, List, length}
use Rattle.wasm_module.specs.Exports.{ExportParts, EncodesExport}
use Rattle.wasm_module.specs.Items.{ItemsOccur}
use Rattle.wasm_module.specs.FunctionNames.{bytes_of, with_exports}
use Rattle.wasm_module.proofs.names.name_exports.Given as goal

abbrev pub invariant-loop-export : goal.invariant-loop-export
invariant-loop-export l = (exports : List ExportParts) × ItemsOccur EncodesExport l.initial.reader exports l.reader × (length exports ≡ l._export) ×
    (bytes_of l.names.items ≡ with_exports (bytes_of l.initial.names.items) exports)
