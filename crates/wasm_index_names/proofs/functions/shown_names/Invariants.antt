use Rattle.std.proofs.Common.{◌≡◌, map, string_bytes, take}
use Rattle.wasm_module.specs.FunctionNames.{bytes_of}
use Rattle.wasm_escapes.specs.Escapes.{escaped}
use Rattle.wasm_index_names.proofs.functions.shown_names.Given as goal

abbrev pub invariant-loop-name : goal.invariant-loop-name
invariant-loop-name l = map string_bytes l.names.items ≡ map escaped (bytes_of (take l.name-index l.given))
