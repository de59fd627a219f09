use Rattle.std.proofs.Common.{◌≡◌, ◌<◌, suc, ◌+◌, [], nat_eq, length, get_or, set, sym, ap, ◌∙◌, arith}
use Rattle.std.specs.Cmp.Lexicographic.{pointwise}
use Rattle.wasm_listing.specs.Census.{proposals, one_more}
use Rattle.wasm_listing.proofs.Places.{counted_first, first_all, first_more, first_other}
use Rattle.wasm_listing.proofs.counting.Census.count.Goals as goal
use Rattle.wasm_listing.proofs.counting.Census.count.Goals.{then-eq, else-eq}

pub places-init : goal.places-init
places-init c = c.self.view_is

pub places-preserved : goal.places-preserved
places-preserved c =
    let all : length c.args.self.now ≡ 19 = ap length (sym c.self.view_is) ∙ c.self.told in
    let below : c.places.place < length c.args.self.now = let a = c.places-test.true in omega (arith, a, all) in
    let name : pointwise nat_eq (get_or proposals c.places.place []) c.args.proposal.now ≡ c.eq.result =
    ap (λ p. pointwise nat_eq p c.args.proposal.now) (sym c.proposal_at.ensures) ∙ sym c.eq.ensures in
    let next : suc c.places.place ≡ c.places.place + 1 = omega arith in
    let more = ap (λ i. counted_first i c.args.proposal.now proposals c.args.self.now) next in
    elim c.if-eq.branch [
      | then-eq w ↦ ap (λ s. s.counts) w.self-inside-is ∙ ap (set c.places.self-inside.counts c.places.place) w.saturating_add.ensures ∙
          ap (λ counts. set counts c.places.place (one_more (get_or counts c.places.place 0))) c.places.invariant ∙
          first_more c.places.place c.args.proposal.now proposals c.args.self.now (sym all) below (name ∙ w.if-eq.true) ∙ more
      | else-eq w ↦ ap (λ s. s.counts) w.self-inside-is ∙ c.places.invariant ∙
          first_other c.places.place c.args.proposal.now proposals c.args.self.now (sym all) below (name ∙ w.if-eq.false) ∙ more
    ]

pub returns : goal.returns
returns c =
    let all : length c.args.self.now ≡ 19 = ap length (sym c.self.view_is) ∙ c.self.told in
    let end : c.places.place ≡ 19 = let a = c.places-test.false in let b = c.places.auto.place-end in omega (arith, a, b) in
    c.places.invariant ∙ first_all c.places.place c.args.proposal.now proposals c.args.self.now (sym all) (end ∙ sym all)
