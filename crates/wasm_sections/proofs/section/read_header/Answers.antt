use Rattle.std.proofs.Common.{refl, sym, subst, ◌∙◌, ◌≤◌, arith}
use Rattle.std.proofs.lemmas.Bool.{le-leb, lt-leb}
use Rattle.wasm_grammars.specs.Grammar.{HasReadBy}
use Rattle.wasm_grammars.proofs.Steps.{begins, then, passes, placed, stops, fails_at, ends, stays}
use Rattle.wasm_sections.specs.Section.{header}
use Rattle.wasm_sections.proofs.Within.{start_within}
use Rattle.wasm_sections.proofs.section.read_header.Goals as goal

pub returns-in_err-id-clause-reads : goal.returns-in_err-id-clause-reads
returns-in_err-id-clause-reads c = stays _ c.from_residual.ensures.1 (fails_at (begins header c.clone-ahead.ensures) c.in_err-id.ensures)

pub returns-then-id-gt-MAX_ID-clause-reads : goal.returns-then-id-gt-MAX_ID-clause-reads
returns-then-id-gt-MAX_ID-clause-reads c =
    let id = then (begins header c.clone-ahead.ensures) c.in_ok-id.ensures in (
      refl,
      stops id (lt-leb _ _ c.if-id-gt-MAX_ID.true) (λ e. cc e) (start_within c.clone-ahead.ensures c.is_within.ensures c.in_ok-id.ensures.2) c.new.ensures.message
          (c.new.ensures.offset ∙ c.original_position.ensures),
    )

pub returns-in_err-size-clause-reads : goal.returns-in_err-size-clause-reads
returns-in_err-size-clause-reads c =
    let id = then (begins header c.clone-ahead.ensures) c.in_ok-id.ensures in
    let small = passes id (le-leb _ _ (let low : c.in_ok-id.id ≤ 127 = omega arith in low)) in
    stays _ c.from_residual-in_err-size.ensures.1 (fails_at small c.in_err-size.ensures)

pub returns-clause-reads : goal.returns-clause-reads
returns-clause-reads c =
    let id = then (begins header c.clone-ahead.ensures) c.in_ok-id.ensures in
    let size = then (passes id (le-leb _ _ (let low : c.in_ok-id.id ≤ 127 = omega arith in low))) c.in_ok-size.ensures in
    subst (λ o. HasReadBy header (record { id = c.in_ok-id.id; size = c.in_ok-size.size; start = o }) c.args.reader.now c.read_var_u32.new.self)
    (sym c.original_position-start.ensures) (ends (placed size))
