use Rattle.std.proofs.Common.{◌≡◌, [], ◌++◌, replicate}
use Rattle.wasm_module.specs.FunctionNames.{bytes_of}
use Rattle.wasm_module.proofs.found.push_unnamed.Given as goal

abbrev pub invariant-loop-function : goal.invariant-loop-function
invariant-loop-function l = bytes_of l.names.items ≡ bytes_of l.initial.names.items ++ replicate l._function []
