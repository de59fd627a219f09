use Rattle.std.proofs.Common.{◌≡◌, ◌≤◌, [], sym, subst, ap, ◌∙◌, arith}
use Rattle.wasm_below.specs.Source.{Reader, offset_of}
use Rattle.wasm_grammars.specs.Grammar.{thing, spanned, HasReadBy}
use Rattle.wasm_grammars.specs.Parts.{more, val_type}
use Rattle.wasm_grammars.specs.Reading.{Fails}
use Rattle.wasm_grammars.proofs.Steps.{begins, then, placed, fails_at, fails_first, bytes_fail, ends_as, stays}
use Rattle.wasm_segments.proofs.Passing.{passing_begins, passed, passing_fails, all_passed}
use Rattle.wasm_c_items.specs.Types.{list_at, types_list}
use Rattle.wasm_c_items.proofs.types.read_types.Goals as goal

pub returns-in_err-count : goal.returns-in_err-count
returns-in_err-count c = stays _ c.from_residual.ensures.1 (fails_at (begins (types_list c.args.limit c.args.desc) c.clone-ahead.ensures) c.in_err-count.ensures)

pub loop-item-init : goal.loop-item-init
loop-item-init c =
    let old = c.args.reader.now in
    let count = then (begins (types_list c.args.limit c.args.desc) c.clone-ahead.ensures) c.in_ok-count.ensures in
    let start = subst (λ r. offset_of old ≤ offset_of r) (sym c.clone-first.ensures) count.later in
    passing_begins (thing val_type) c.in_ok-count.count (sym c.clone-first.ensures) start

pub returns-in_err-_value : goal.returns-in_err-_value
returns-in_err-_value c =
    let old = c.args.reader.now in
    let n = c.in_ok-count.count in
    let list = placed (then (begins (types_list c.args.limit c.args.desc) c.clone-ahead.ensures) c.in_ok-count.ensures) in
    let same = ap (λ (r : Reader). r.features) c.clone-first.ensures ∙ list.features in
    let item = passing_fails (λ f. val_type) n c.loop-item._item c.loop-item.invariant same c.loop-item-test.true c.in_err-_value.ensures.1 in
    let error = subst (λ r. Fails (more n (thing val_type) []) (offset_of old) c.in_err-_value.field-0.0 r) c.clone-first.ensures item in
    stays _ c.from_residual-in_err-_value.ensures.1 (fails_first list (bytes_fail error))

pub loop-item-preserved : goal.loop-item-preserved
loop-item-preserved c =
    let list = placed (then (begins (types_list c.args.limit c.args.desc) c.clone-ahead.ensures) c.in_ok-count.ensures) in
    let same = ap (λ (r : Reader). r.features) c.clone-first.ensures ∙ list.features in
    passed (λ f. val_type) c.in_ok-count.count c.loop-item._item c.loop-item.invariant same c.loop-item-test.true c.in_ok-_value._value c.in_ok-_value.ensures

pub returns : goal.returns
returns c =
    let n = c.in_ok-count.count in
    let ahead = c.loop-item.ahead in
    let list = placed (then (begins (types_list c.args.limit c.args.desc) c.clone-ahead.ensures) c.in_ok-count.ensures) in
    let same = ap (λ (r : Reader). r.features) c.clone-first.ensures ∙ list.features in
    let all : c.loop-item._item ≡ n = omega arith in
    let found = all_passed (λ f. val_type) n c.loop-item._item c.loop-item.invariant same all in
    let read = subst (λ r. HasReadBy (spanned (more n (thing val_type) [])) found.0 r ahead) c.clone-first.ensures found.1 in
    let made = c.items_between-items.ensures ∙ ap (λ r. list_at (offset_of r) (offset_of ahead) n) c.clone-first.ensures in
    ends_as (placed (then list read)) (sym made)
