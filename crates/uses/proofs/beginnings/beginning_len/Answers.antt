use Rattle.std.proofs.Common.{[], ◌++◌, length, refl, sym, ap, subst, ◌∙◌, arith}
use Rattle.wasm_operators.specs.below.Source.{source_of}
use Rattle.wasm_operators.specs.Expression.{IsAny, EncodesExpression}
use Rattle.uses.specs.Input.{input}
use Rattle.uses.proofs.Begun.{longest_at}
use Rattle.uses.proofs.beginnings.beginning_len.Goals as goal

pub returns-in-Ok-clause-longest : goal.returns-in-Ok-clause-longest
returns-in-Ok-clause-longest c = λ longest is.
    let s = input c.args.features c.args.bytes.now in
    let along = (c.in-Ok.ensures.rest [] c.new-reader.ensures.read_so_far).tree in
    let list = along.1 ∙ ap (λ first. first ++ along.0) c.new-found.ensures.items in
    let encodes = rw (c.new-reader.ensures.reader ∙ c.new_features.ensures) at along.2.encodes in
    let same = c.one_longest_beginning.ensures s along.0 longest (c.whole_is_longest.ensures [] s along.0 tt encodes) is in
    omega (arith, c.len.ensures, c.read_all.new.out.ok.0, ap length (list ∙ same))

pub returns-in-Ok-clause-whole : goal.returns-in-Ok-clause-whole
returns-in-Ok-clause-whole c = λ whole is.
    let along = (c.in-Ok.ensures.rest [] c.new-reader.ensures.read_so_far).tree in
    let list = along.1 ∙ ap (λ first. first ++ along.0) c.new-found.ensures.items in
    let encodes = rw (c.new-reader.ensures.reader ∙ c.new_features.ensures) at along.2.encodes in
    let same = c.one_expression.ensures 0 along.0 whole c.args.bytes.now c.args.bytes.now [] [] encodes is refl in
    omega (arith, c.len.ensures, c.read_all.new.out.ok.0, ap length (list ∙ same.0))

pub returns-clause-longest : goal.returns-clause-longest
returns-clause-longest c = λ longest is.
    let s = input c.args.features c.args.bytes.now in
    let along = (c.in-Err.ensures.rest [] c.new-reader.ensures.read_so_far).beginning in
    let list = along.1 ∙ ap (λ first. first ++ along.0) c.new-found.ensures.items in
    let found = longest_at IsAny c.in-Err.error.message _ along.0 (λ m. c.in_default.not-OutOfMemory (c.message.ensures ∙ m)) along.2.at in
    let same = c.one_longest_beginning.ensures s along.0 longest (rw (c.new-reader.ensures.reader ∙ c.new_features.ensures) at found) is in
    omega (arith, c.len-in_default.ensures, c.read_all.new.out.ok.0, ap length (list ∙ same))

pub returns-clause-whole : goal.returns-clause-whole
returns-clause-whole c = λ whole is.
    let there = subst (λ r. EncodesExpression (source_of r) whole) (sym (c.new-reader.ensures.reader ∙ c.new_features.ensures)) is in
    let memory = (c.in-Err.ensures.rest [] c.new-reader.ensures.read_so_far).only whole there tt in
    absurd (c.in_default.not-OutOfMemory (c.message.ensures ∙ memory))
