use Rattle.std.proofs.Common.{◌≡◌, length}
use Rattle.wasm_below.specs.Number.{EncodesUnsigned}
use Rattle.wasm_module.specs.Items.{ItemsOccur}
use Rattle.wasm_module.proofs.types.function_types.Given as goal

abbrev pub invariant-loop-function : goal.invariant-loop-function
invariant-loop-function l = ItemsOccur (EncodesUnsigned 32) l.initial.reader l.types.items l.reader × (length l.types.items ≡ l._function)
