use Rattle.std.proofs.Common.{◌≡◌, true, refl, rules}
use Rattle.wasm_grammars.proofs.Steps.{begins, yes, fails_at}
use Rattle.wasm_segments.specs.Flags.{index_if}
use Rattle.wasm_segments.proofs.flags.read_index.Goals as goal

pub returns-in-Err : goal.returns-in-Err
returns-in-Err c =
    let is : c.args.present ≡ true = search rules in
    (c.in-Err.ensures.0, fails_at (yes (begins (index_if c.args.present) refl) is) c.in-Err.ensures)
