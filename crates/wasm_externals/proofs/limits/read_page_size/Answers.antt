use Rattle.std.proofs.Common.{refl, ◌≤◌, arith}
use Rattle.std.proofs.lemmas.Bool.{le-leb, lt-leb, eq-eqb, ne_eqb}
use Rattle.wasm_below.specs.Source.{end_of}
use Rattle.wasm_externals.specs.Limits.{page_size}
use Rattle.wasm_grammars.proofs.Steps.{begins_at, then, yes, no, passes, stops, kept, fails_at, ends, failed}
use Rattle.wasm_externals.proofs.limits.read_page_size.Goals as goal

pub returns-then-flags-eq0 : goal.returns-then-flags-eq0
returns-then-flags-eq0 c = ends (no (begins_at (page_size c.args.flags) refl c.requires) (ne_eqb _ _ (λ e. omega (arith, e, c.if-flags-eq0.true))))

pub returns-in_err-log2 : goal.returns-in_err-log2
returns-in_err-log2 c =
    let some = yes (begins_at (page_size c.args.flags) refl c.requires) (eq-eqb _ _ (omega (arith, c.if-flags-eq0.false))) in
    failed _ _ c.from_residual.ensures.1 (fails_at some c.in_err-log2.ensures)

pub returns-then-log2-gt-MAX_PAGE_SIZE_LOG2 : goal.returns-then-log2-gt-MAX_PAGE_SIZE_LOG2
returns-then-log2-gt-MAX_PAGE_SIZE_LOG2 c =
    let some = yes (begins_at (page_size c.args.flags) refl c.requires) (eq-eqb _ _ (omega (arith, c.if-flags-eq0.false))) in
    let within : c.args.start ≤ end_of c.args.reader.now = omega (arith, c.requires, c.is_within.ensures) in
    stops (then some c.in_ok-log2.ensures) (lt-leb _ _ c.if-log2-gt-MAX_PAGE_SIZE_LOG2.true) (λ e. cc e) (kept within c.in_ok-log2.ensures.2) c.new.ensures.message c.new.ensures.offset

pub returns : goal.returns
returns c =
    let some = yes (begins_at (page_size c.args.flags) refl c.requires) (eq-eqb _ _ (omega (arith, c.if-flags-eq0.false))) in
    ends (passes (then some c.in_ok-log2.ensures) (le-leb _ _ c.if-log2-gt-MAX_PAGE_SIZE_LOG2.false))
