use Rattle.std.proofs.Common.{refl, sym, ap, ◌∙◌, ◌-◌, arith}
use Rattle.std.proofs.lemmas.Bool.{false_from_ne_true}
use Rattle.std.proofs.lemmas.Str.{IsUtf8-from_is_utf8, is_utf8-from_IsUtf8}
use Rattle.wasm_externals.specs.Texts.{text}
use Rattle.wasm_grammars.proofs.BlockSteps.{block_read, block_missing}
use Rattle.wasm_grammars.proofs.Steps.{begins, then, yes, moved_on, last_byte, stops_last, fails_in, ends_as, stays}
use Rattle.wasm_externals.proofs.TextSteps.{size_some, still_within}
use Rattle.wasm_externals.proofs.text.TextRead.read_from.Goals as goal

pub read_u32_up_to-requires : goal.read_u32_up_to-requires
read_u32_up_to-requires c = λ e. cc e

pub returns-in_err-size : goal.returns-in_err-size
returns-in_err-size c = stays _ c.from_residual.ensures.1 (fails_in (begins text c.clone-ahead.ensures) c.in_err-size.ensures.1)

pub returns-in_err-bytes : goal.returns-in_err-bytes
returns-in_err-bytes c =
    let size = then (begins text c.clone-ahead.ensures) c.in_ok-size.ensures in
    stays _ c.from_residual-in_err-bytes.ensures.1 (block_missing size c.is_within.ensures c.in_err-bytes.ensures)

pub overflow_sub-last : goal.overflow_sub-last
overflow_sub-last c =
    let (first, p, t) = c.in_ok-size.ensures in
    let at = last_byte t (begins text c.clone-ahead.ensures).later (size_some 0 first _ p) in
    let on = moved_on c.in_ok-bytes.ensures.2 in
    omega (arith, at, on, c.original_position-last.ensures)

pub returns-in-Err : goal.returns-in-Err
returns-in-Err c =
    let bytes = block_read (then (begins text c.clone-ahead.ensures) c.in_ok-size.ensures) c.in_ok-bytes.bytes c.in_ok-bytes.ensures in
    let (first, p, t) = c.in_ok-size.ensures in
    let begun = last_byte t (begins text c.clone-ahead.ensures).later (size_some 0 first _ p) in
    let on = moved_on c.in_ok-bytes.ensures.2 in
    let no = false_from_ne_true _ (λ h. c.in-Err.ensures.cases.0 (IsUtf8-from_is_utf8 _ h)) in
    let at = c.new.ensures.offset ∙ ap (λ k. k - 1) c.original_position-last.ensures in
    (refl, stops_last bytes no (λ e. cc e) (omega (arith, begun, on)) (still_within c.is_within.ensures c.in_ok-bytes.ensures.2) c.new.ensures.message at)

pub returns-in-Ok : goal.returns-in-Ok
returns-in-Ok c =
    let bytes = block_read (then (begins text c.clone-ahead.ensures) c.in_ok-size.ensures) c.in_ok-bytes.bytes c.in_ok-bytes.ensures in
    ends_as (yes bytes (is_utf8-from_IsUtf8 _ c.in-Ok.ensures.cases.1)) (sym c.in-Ok.ensures.cases.0)
