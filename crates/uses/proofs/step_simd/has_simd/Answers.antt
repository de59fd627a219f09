use Rattle.std.proofs.Common.{[], sym, subst, ◌∙◌}
use Rattle.wasm_operators.specs.below.Source.{source_of}
use Rattle.wasm_operators.specs.Expression.{IsLongestAfter}
use Rattle.wasm_operators.specs.Visiting.{IsScalar}
use Rattle.uses.specs.Input.{input}
use Rattle.uses.proofs.Scalars.{none_in, none_at, neither}
use Rattle.uses.proofs.step_simd.has_simd.Goals as goal

pub returns-in-Ok-clause-found : goal.returns-in-Ok-clause-found
returns-in-Ok-clause-found c = λ longest is vectors.
    let s = input c.args.features c.args.bytes.now in
    let along = (c.in-Ok.ensures.rest [] c.new-reader.ensures.read_so_far).tree in
    let encodes = rw (c.new-reader.ensures.reader ∙ c.new_features.ensures) at along.2.encodes in
    let same = c.one_longest_beginning.ensures s along.0 longest (c.whole_is_longest.ensures [] s along.0 tt encodes) is in
    absurd (vectors (subst IsScalar same along.1.1))

pub returns-in-Ok-clause-none : goal.returns-in-Ok-clause-none
returns-in-Ok-clause-none c = λ no before after op at there.
    let s = input c.args.features c.args.bytes.now in
    let along = (c.in-Ok.ensures.rest [] c.new-reader.ensures.read_so_far).tree in
    let encodes = rw (c.new-reader.ensures.reader ∙ c.new_features.ensures) at along.2.encodes in
    none_in s along.0 before after op at c.one_layout.ensures.beginning c.scalar_beginnings.ensures.none (c.whole_is_longest.ensures [] s along.0 tt encodes)
    along.1.1 there

pub returns-clause-found : goal.returns-clause-found
returns-clause-found c = λ longest is vectors.
    let same = c.new-reader.ensures.reader ∙ c.new_features.ensures in
    let there = subst (λ r. IsLongestAfter [] (source_of r) longest) (sym same) is in
    let refused = c.in-Err.ensures.simd [] c.new-reader.ensures.read_so_far longest there vectors in
    absurd (neither (λ m. c.in_default.not-UnexpectedSimd (c.message.ensures ∙ m)) (λ m. c.in_default.not-OutOfMemory (c.message.ensures ∙ m)) refused)

pub returns-clause-none : goal.returns-clause-none
returns-clause-none c = λ no before after op at there.
    let s = input c.args.features c.args.bytes.now in
    let same = c.new-reader.ensures.reader ∙ c.new_features.ensures in
    let exists = rw same at (c.longest_exists.ensures.any [] c.new-reader.result c.new-reader.ensures.read_so_far) in
    none_at s before after op at c.one_layout.ensures.beginning c.scalar_beginnings.ensures.none exists
    (λ longest is vectors.
    let refused = c.in-Err.ensures.simd [] c.new-reader.ensures.read_so_far longest (subst (λ r. IsLongestAfter [] (source_of r) longest) (sym same) is) vectors in
    neither (λ m. c.in_default.not-UnexpectedSimd (c.message.ensures ∙ m)) (λ m. c.in_default.not-OutOfMemory (c.message.ensures ∙ m)) refused) there
