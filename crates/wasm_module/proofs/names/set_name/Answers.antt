use Rattle.std.proofs.Common.{ap, ◌∙◌}
use Rattle.wasm_module.specs.FunctionNames.{bytes_of}
use Rattle.wasm_module.proofs.NamedFunctions.{one_named}
use Rattle.wasm_module.proofs.names.set_name.Goals as goal

pub returns-then-place-len : goal.returns-then-place-len
returns-then-place-len c = ap bytes_of c.set.ensures.items ∙ one_named c.args.index c.args.names.now.items c.args.name
