use Rattle.std.proofs.Common.{◌≡◌, sym, subst, arith}
use Rattle.wasm_below.specs.Source.{offset_of}
use Rattle.wasm_grammars.proofs.Steps.{Comes, begins, then, placed, fails_at, moved_on, stays}
use Rattle.wasm_names.specs.Names.{skipped_names, skipped}
use Rattle.wasm_names.proofs.Skipping.{none_skipped, skip_one, skip_fails, all_skipped}
use Rattle.wasm_names.proofs.indirect.skip_names.Goals as goal

pub returns-in_err-count-clause-reads : goal.returns-in_err-count-clause-reads
returns-in_err-count-clause-reads c = stays _ c.from_residual.ensures.1 (fails_at (begins skipped_names c.clone-ahead.ensures) c.in_err-count.ensures)

pub loop-name-init : goal.loop-name-init
loop-name-init c =
    let old = c.args.reader.now in
    let n = c.in_ok-count.count in
    let after = then (begins skipped_names c.clone-ahead.ensures) c.in_ok-count.ensures in
    let first = placed after in
    let at = c.original_position-first.ensures in
    let later = after.later in (
      none_skipped n _ (subst (λ f. Comes (offset_of old) skipped_names old (skipped n (n, f)) c.read_var_u32.new.self) (sym at) first),
      omega (arith, later, at),
      omega (arith, at),
    )

pub returns-in_err-_size-clause-reads : goal.returns-in_err-_size-clause-reads
returns-in_err-_size-clause-reads c =
    stays _ c.from_residual-in_err-_size.ensures.1
    (skip_fails c.in_ok-count.count c.loop-name._name _ c.loop-name.invariant.0 c.loop-name-test.true c.in_err-_size.ensures.1)

pub loop-name-preserved : goal.loop-name-preserved
loop-name-preserved c =
    let on = moved_on c.in_ok-_size.ensures.2 in (
      skip_one c.in_ok-count.count c.loop-name._name _ c.loop-name.invariant.0 c.loop-name-test.true c.in_ok-_size.ensures,
      c.loop-name.invariant.1,
      omega (arith, on, c.loop-name.invariant.2),
    )

pub returns-clause-reads : goal.returns-clause-reads
returns-clause-reads c =
    all_skipped c.in_ok-count.count c.loop-name._name _ c.loop-name.invariant.0 (let all : c.loop-name._name ≡ c.in_ok-count.count = omega arith in all)
