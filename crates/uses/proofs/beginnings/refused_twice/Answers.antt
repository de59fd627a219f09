use Rattle.std.proofs.Common.{[], sym, ◌∙◌}
use Rattle.wasm_operators.specs.Next.{collecting}
use Rattle.uses.proofs.Begun.{begins_same}
use Rattle.uses.proofs.beginnings.refused_twice.Goals as goal

pub returns-in-Ok-clause-whole : goal.returns-in-Ok-clause-whole
returns-in-Ok-clause-whole c =
    let along = (c.in-Ok.ensures.rest [] c.new-reader.ensures.read_so_far).tree in
    let encodes = rw (c.new-reader.ensures.reader ∙ c.new_features.ensures) at along.2.encodes in
    (along.0, encodes)

pub returns-in-Ok-read_all-clause-whole : goal.returns-in-Ok-read_all-clause-whole
returns-in-Ok-read_all-clause-whole c =
    let along = (c.in-Ok-read_all.ensures.rest [] c.new-other.ensures.read_so_far).tree in
    let encodes = rw (c.new-other.ensures.reader ∙ c.new_features-2.ensures) at along.2.encodes in
    (along.0, encodes)

pub returns-clause-again : goal.returns-clause-again
returns-clause-again c = λ one two.
    let first = (c.in-Err.ensures.rest [] c.new-reader.ensures.read_so_far).beginning in
    let second = (c.in-Err-read_all.ensures.rest [] c.new-other.ensures.read_so_far).beginning in
    let reader = (c.new-other.ensures.reader ∙ c.new_features-2.ensures) ∙ sym (c.new-reader.ensures.reader ∙ c.new_features.ensures) in
    let agree = begins_same collecting c.in-Err-read_all.second c.new-reader.result c.new-other.result c.read_all-2.new.self
    second.0 reader second.2 in
    let same = c.one_result.ensures.reads [] c.in-Err.error c.in-Err-read_all.second c.new-reader.result c.read_all.new.self c.read_all-2.new.self
    first.0 second.0 first.2 one agree two in
    (same.3, same.4)
