use Rattle.std.proofs.Common.{◌≡◌, true, refl, rules}
use Rattle.wasm_grammars.proofs.Steps.{begins, yes}
use Rattle.wasm_segments.specs.Segments.{memory_index}
use Rattle.wasm_segments.proofs.Passing.{ends_part}
use Rattle.wasm_segments.proofs.data.read_memory_index.Goals as goal

pub returns : goal.returns
returns c =
    let is : c.args.written ≡ true = search rules in
    ends_part (yes (begins (memory_index c.args.written) refl) is) refl c.read_var_u32.result c.read_var_u32.new.self c.read_var_u32.ensures
