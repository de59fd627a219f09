use Rattle.std.proofs.Common.{ℕ, [], length, refl, sym, ap, ◌∙◌, arith, length-append}
use Rattle.wasm_operators.specs.Visiting.{IsScalar, scalar_beginning}
use Rattle.uses.specs.Input.{input}
use Rattle.uses.proofs.Begun.{longest_at}
use Rattle.uses.proofs.Tallied.{tallied_along}
use Rattle.uses.proofs.step_simd.count_before_simd.Goals as goal

pub returns-in-Ok : goal.returns-in-Ok
returns-in-Ok c = λ longest is.
    let s = input c.args.features c.args.bytes.now in
    let along = (c.in-Ok.ensures.rest [] c.new-reader.ensures.read_so_far).tree in
    let encodes = rw (c.new-reader.ensures.reader ∙ c.new_features.ensures) at along.2.encodes in
    let same = c.one_longest_beginning.ensures s along.0 longest (c.whole_is_longest.ensures [] s along.0 tt encodes) is in
    let few = c.layouts.ensures.length 0 along.0 c.args.bytes.now encodes.0 in
    let counted = tallied_along along.0 _ c.visit_all.new.v along.1.0 refl (omega (arith, few)) in
    counted ∙ ap length (sym along.1.1 ∙ ap scalar_beginning same)

pub returns : goal.returns
returns c = λ longest is.
    let s = input c.args.features c.args.bytes.now in
    let same = c.new-reader.ensures.reader ∙ c.new_features.ensures in
    let along = (c.in-Err.ensures.rest [] c.new-reader.ensures.read_so_far).beginning in
    let found = longest_at IsScalar c.in-Err.error.message _ along.0 (λ m. c.in_default.not-OutOfMemory (c.message.ensures ∙ m)) along.2.at in
    let is_front = (c.scalar_longest.ensures.exactly [] s longest along.0 is).0 (rw same at found) in
    let takes = rw same at along.2.takes in
    let few = c.layouts.ensures.length 0 along.0 along.2.text (rw same at along.2.laid) in
    let counted = tallied_along along.0 _ c.visit_all.new.v along.1.0 refl (omega (arith, few, ap length takes.parts, length-append {A = ℕ})) in
    counted ∙ ap length is_front
