use Rattle.std.proofs.Common.{◌≡◌, [], ◌++◌, map, replicate, string_bytes}
use Rattle.wasm_index_names.proofs.list.pad.Given as goal

abbrev pub invariant-loop-name : goal.invariant-loop-name
invariant-loop-name l = map string_bytes l.names.items ≡ map string_bytes l.initial.names.items ++ replicate l._name []
