use Rattle.wasm_externals.specs.Globals.{tag_type}
use Rattle.wasm_grammars.proofs.Steps.{begins, then, fails_at, fails_in, ends, stays}
use Rattle.wasm_externals.proofs.tag_type.TagTypeRead.read_from.Goals as goal

pub returns-in_err-read_flags : goal.returns-in_err-read_flags
returns-in_err-read_flags c = stays _ c.from_residual.ensures.1 (fails_in (begins tag_type c.clone-ahead.ensures) c.in_err-read_flags.ensures.1)

pub returns-in_err-func_type_idx : goal.returns-in_err-func_type_idx
returns-in_err-func_type_idx c =
    let attribute = then (begins tag_type c.clone-ahead.ensures) c.in_ok-read_flags.ensures in
    stays _ c.from_residual-in_err-func_type_idx.ensures.1 (fails_at attribute c.in_err-func_type_idx.ensures)

pub returns : goal.returns
returns c = ends (then (then (begins tag_type c.clone-ahead.ensures) c.in_ok-read_flags.ensures) c.in_ok-func_type_idx.ensures)
