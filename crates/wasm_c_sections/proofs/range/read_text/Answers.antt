use Rattle.wasm_c_sections.specs.Ranges.{placed_text}
use Rattle.wasm_grammars.proofs.Steps.{begins, then, placed, fails_in, ends_as, stays}
use Rattle.wasm_c_sections.proofs.range.read_text.Goals as goal

pub returns-in_err-text : goal.returns-in_err-text
returns-in_err-text c = stays _ c.from_residual.ensures.1 (fails_in (begins placed_text c.clone-ahead.ensures) c.in_err-text.ensures.1)

pub returns : goal.returns
returns c =
    ends_as (placed (then (begins placed_text c.clone-ahead.ensures) c.in_ok-text.ensures))
    (cc (c.ending_at-range.ensures, c.original_position.ensures, c.as_str.ensures))
