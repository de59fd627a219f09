use Rattle.std.proofs.Common.{[], refl, ◌∙◌, arith}
use Rattle.std.proofs.lemmas.Result.{err_from_is_err_and}
use Rattle.uses.specs.declared.count.Count.{Count}
use Rattle.uses.proofs.Counting.{counted_along}
use Rattle.uses.proofs.count.count_operators.Goals as goal

pub returns-in_err-visit_all_simd-clause-whole : goal.returns-in_err-visit_all_simd-clause-whole
returns-in_err-visit_all_simd-clause-whole c = λ placed encodes.
    let p = err_from_is_err_and c.from_residual.result c.from_residual.ensures.1 in
    let same = c.new-reader.ensures.reader ∙ c.new_features.ensures in
    rw (p.1, p.2) ((c.in_err-visit_all_simd.ensures.rest [] c.new-reader.ensures.read_so_far).only placed (rw same encodes) tt)

pub returns-clause-counts : goal.returns-clause-counts
returns-clause-counts c =
    let along = (c.in_ok-visit_all_simd.ensures.rest [] c.new-reader.ensures.read_so_far).tree in
    let encodes = rw (c.new-reader.ensures.reader ∙ c.new_features.ensures) at along.2.encodes in
    let few = c.layouts.ensures.length 0 along.0 c.args.bytes.now encodes.0 in
    (along.0, encodes, counted_along (λ (s : Count). s.operators) along.0 _ c.visit_all_simd.new.v along.1 refl (omega (arith, few)))
