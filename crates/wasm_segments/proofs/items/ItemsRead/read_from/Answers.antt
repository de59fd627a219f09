use Rattle.std.proofs.Common.{◌≡◌, ◌+◌, ◌≤◌, ◌-◌, length, take, [], sym, subst, ap, ◌∙◌, length-append, arith}
use Rattle.std.proofs.lemmas.List.{length-take-le}
use Rattle.wasm_below.specs.Source.{Reader, rest, reader_of, offset_of}
use Rattle.wasm_grammars.specs.Grammar.{thing, spanned, HasReadBy}
use Rattle.wasm_grammars.specs.Parts.{more}
use Rattle.wasm_grammars.specs.Reading.{Fails}
use Rattle.wasm_grammars.proofs.Steps.{begins, then, placed, fails_at, fails_first, bytes_fail, ends_as, stays}
use Rattle.wasm_segments.specs.Items.{items}
use Rattle.wasm_segments.proofs.Passing.{passing_begins, passed, passing_fails, all_passed, taken_front, counted_at}
use Rattle.wasm_segments.proofs.items.ItemsRead.read_from.Goals as goal

pub returns-in_err-count : goal.returns-in_err-count
returns-in_err-count g c =
    let features = c.args.reader.now.features in
    stays _ c.from_residual.ensures.1 (fails_at (begins (items features (g.T.Read.grammar features)) c.clone-ahead.ensures) c.in_err-count.ensures)

pub loop-item-init : goal.loop-item-init
loop-item-init g c =
    let old = c.args.reader.now in
    let count = then (begins (items old.features (g.T.Read.grammar old.features)) c.clone-ahead.ensures) c.in_ok-count.ensures in
    let start = subst (λ r. offset_of old ≤ offset_of r) (sym c.clone-first.ensures) count.later in
    passing_begins (thing (g.T.Read.grammar old.features)) c.in_ok-count.count (sym c.clone-first.ensures) start

pub returns-in_err-_value : goal.returns-in_err-_value
returns-in_err-_value g c =
    let old = c.args.reader.now in
    let n = c.in_ok-count.count in
    let list = placed (then (begins (items old.features (g.T.Read.grammar old.features)) c.clone-ahead.ensures) c.in_ok-count.ensures) in
    let same = ap (λ (r : Reader). r.features) c.clone-first.ensures ∙ list.features in
    let item = passing_fails (g.T.Read.grammar) n c.loop-item._item c.loop-item.invariant same c.loop-item-test.true c.in_err-_value.ensures.1 in
    let error = subst (λ r. Fails (more n (thing (g.T.Read.grammar old.features)) []) (offset_of old) c.in_err-_value.field-0.0 r) c.clone-first.ensures item in
    stays _ c.from_residual-in_err-_value.ensures.1 (fails_first list (bytes_fail error))

pub loop-item-preserved : goal.loop-item-preserved
loop-item-preserved g c =
    let old = c.args.reader.now in
    let list = placed (then (begins (items old.features (g.T.Read.grammar old.features)) c.clone-ahead.ensures) c.in_ok-count.ensures) in
    let same = ap (λ (r : Reader). r.features) c.clone-first.ensures ∙ list.features in
    passed (g.T.Read.grammar) c.in_ok-count.count c.loop-item._item c.loop-item.invariant same c.loop-item-test.true c.in_ok-_value._value c.in_ok-_value.ensures

pub slice_bounds-bytes-count : goal.slice_bounds-bytes-count
slice_bounds-bytes-count g c =
    let old = c.args.reader.now in
    let first = c.clone-first.result in
    let ahead = c.loop-item.ahead in
    let list = placed (then (begins (items old.features (g.T.Read.grammar old.features)) c.clone-ahead.ensures) c.in_ok-count.ensures) in
    let same = ap (λ (r : Reader). r.features) c.clone-first.ensures ∙ list.features in
    let all : c.loop-item._item ≡ c.in_ok-count.count = omega arith in
    let found = all_passed (g.T.Read.grammar) c.in_ok-count.count c.loop-item._item c.loop-item.invariant same all in
    let position : ahead.position ≡ first.position + length found.1.0 = ap (λ (r : Reader). r.position) found.1.2.moved in
    omega (arith, position, c.current_position-end.ensures, c.current_position-begin.ensures)

pub slice_bounds-bytes-length : goal.slice_bounds-bytes-length
slice_bounds-bytes-length g c =
    let old = c.args.reader.now in
    let first = c.clone-first.result in
    let ahead = c.loop-item.ahead in
    let list = placed (then (begins (items old.features (g.T.Read.grammar old.features)) c.clone-ahead.ensures) c.in_ok-count.ensures) in
    let same = ap (λ (r : Reader). r.features) c.clone-first.ensures ∙ list.features in
    let all : c.loop-item._item ≡ c.in_ok-count.count = omega arith in
    let found = all_passed (g.T.Read.grammar) c.in_ok-count.count c.loop-item._item c.loop-item.invariant same all in
    let position : ahead.position ≡ first.position + length found.1.0 = ap (λ (r : Reader). r.position) found.1.2.moved in
    let whole : length (rest first) ≡ length found.1.0 + length (rest ahead) = ap length found.1.2.parts ∙ length-append found.1.0 (rest ahead) in
    let buffer = ap length c.remaining_buffer.ensures in
    let fits : c.current_position-end.result - c.current_position-begin.result ≤ length c.remaining_buffer.result.now =
    omega (arith, position, whole, buffer, c.current_position-end.ensures, c.current_position-begin.ensures) in
    sym (length-take-le (c.current_position-end.result - c.current_position-begin.result) c.remaining_buffer.result.now fits)

pub returns : goal.returns
returns g c =
    let old = c.args.reader.now in
    let first = c.clone-first.result in
    let ahead = c.loop-item.ahead in
    let list = placed (then (begins (items old.features (g.T.Read.grammar old.features)) c.clone-ahead.ensures) c.in_ok-count.ensures) in
    let same = ap (λ (r : Reader). r.features) c.clone-first.ensures ∙ list.features in
    let all : c.loop-item._item ≡ c.in_ok-count.count = omega arith in
    let found = all_passed (g.T.Read.grammar) c.in_ok-count.count c.loop-item._item c.loop-item.invariant same all in
    let position : ahead.position ≡ first.position + length found.1.0 = ap (λ (r : Reader). r.position) found.1.2.moved in
    let n = c.in_ok-count.count in
    let h = thing (g.T.Read.grammar old.features) in
    let start = c.read_var_u32.new.self in
    let size : c.current_position-end.result - c.current_position-begin.result ≡ length found.1.0 =
    omega (arith, position, c.current_position-end.ensures, c.current_position-begin.ensures) in
    let bytes = take (c.current_position-end.result - c.current_position-begin.result) c.remaining_buffer.result.now in
    let front = ap (take (c.current_position-end.result - c.current_position-begin.result)) c.remaining_buffer.ensures ∙
    taken_front found.1.0 (rest ahead) found.1.2.parts size ∙ sym found.1.1.0 in
    let made = c.part-items.ensures ∙ ap (λ f. reader_of f c.original_position.result bytes) same ∙
    ap (λ o. reader_of old.features o bytes) (c.original_position.ensures ∙ ap offset_of c.clone-first.ensures) ∙
    ap (λ z. reader_of old.features (offset_of start) z) front in
    let read = subst (λ r. HasReadBy (spanned (more n h [])) found.0 r ahead) c.clone-first.ensures found.1 in
    ends_as (then list read) (ap (counted_at n) (sym made))
