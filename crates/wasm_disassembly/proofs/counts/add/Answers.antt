use Rattle.std.proofs.Common.{◌≡◌, ◌<◌, ◌+◌, suc, length, get_or, set, sym, ap, ◌∙◌, arith}
use Rattle.wasm_disassembly.proofs.Sums.{added_first, first_all, first_more, one_sum}
use Rattle.wasm_disassembly.proofs.counts.add.Goals as goal

pub places-preserved : goal.places-preserved
places-preserved c =
    let below : c.places.place < length c.args.counts.now = let a = c.places-test.true in let l = c.told-counts in omega (arith, a, l) in
    let next : suc c.places.place ≡ c.places.place + 1 = omega arith in
    ap (set c.places.counts c.places.place) c.saturating_add.ensures ∙
    ap (λ counts. set counts c.places.place (one_sum (get_or counts c.places.place 0) (get_or c.args.more.now c.places.place 0))) c.places.invariant ∙
    first_more c.places.place c.args.counts.now c.args.more.now (c.told-counts ∙ sym c.told-more) below ∙
    ap (λ i. added_first i c.args.counts.now c.args.more.now) next

pub returns : goal.returns
returns c =
    let end : c.places.place ≡ 19 = let a = c.places-test.false in let b = c.places.auto.place-end in omega (arith, a, b) in
    c.places.invariant ∙ first_all c.places.place c.args.counts.now c.args.more.now (c.told-counts ∙ sym c.told-more) (end ∙ sym c.told-counts)
