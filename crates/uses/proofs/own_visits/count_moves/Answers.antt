use Rattle.std.proofs.Common.{◌+◌, [], refl, ◌∙◌, arith}
use Rattle.uses.specs.declared.own_visits.Moves.{Moves}
use Rattle.uses.proofs.Counting.{counted_along}
use Rattle.uses.proofs.own_visits.count_moves.Goals as goal

pub returns : goal.returns
returns c =
    let along = (c.in_ok-visit_all_simd.ensures.rest [] c.new-reader.ensures.read_so_far).tree in
    let encodes = rw (c.new-reader.ensures.reader ∙ c.new_features.ensures) at along.2.encodes in
    let few = c.layouts.ensures.length 0 along.0 c.args.bytes.now encodes.0 in
    (along.0, encodes, counted_along (λ (s : Moves). s.moves + s.others) along.0 _ c.visit_all_simd.new.v along.1 refl (omega (arith, few)))
