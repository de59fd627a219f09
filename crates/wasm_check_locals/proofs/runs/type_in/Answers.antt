use Rattle.std.proofs.Common.{◌≤◌, length, ap, sym, ◌∙◌, arith}
use Rattle.std.specs.Option.{option_map}
use Rattle.wasm_check_locals.specs.declared.runs.Run.{Run}
use Rattle.wasm_check_locals.proofs.RunLemmas.{search_ends, at_of, at_past}
use Rattle.wasm_check_locals.proofs.runs.type_in.Goals as goal

pub returns-then-low-runs : goal.returns-then-low-runs
returns-then-low-runs c =
    let h = c.search.invariant in
    ap (option_map (λ (r : Run). r.ty)) (sym (at_of c.args.runs.now c.search.low c.index-runs-low.result c.if-low-runs.true)) ∙
    search_ends c.args.runs.now c.search.low c.search.high c.args.index c.requires h.0 c.search-test.false h.2 h.3

pub returns : goal.returns
returns c =
    let h = c.search.invariant in
    let past : length c.args.runs.now ≤ c.search.low = omega (arith, c.if-low-runs.false) in
    ap (option_map (λ (r : Run). r.ty)) (sym (at_past c.args.runs.now c.search.low past)) ∙
    search_ends c.args.runs.now c.search.low c.search.high c.args.index c.requires h.0 c.search-test.false h.2 h.3
