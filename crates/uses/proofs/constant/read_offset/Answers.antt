use Rattle.std.proofs.Common.{[], ◌++◌, ap, ◌∙◌}
use Rattle.wasm_operators.specs.Expression.{operators}
use Rattle.uses.specs.Constants.{i32_of}
use Rattle.uses.proofs.ConstantText.{takes_offset}
use Rattle.uses.proofs.constant.read_offset.Goals as goal

pub returns-clause-takes : goal.returns-clause-takes
returns-clause-takes c =
    let reads = rw c.clone-ahead.ensures at c.in_ok-constant.ensures.reads in
    let start = rw c.clone-ahead.ensures at c.in_ok-constant.ensures.placed in
    let along = (c.in_ok-read_all.ensures.rest [] c.get_operators_reader.ensures.read_so_far).tree in
    let encodes = rw c.get_operators_reader.ensures.reader at along.2.encodes in
    let list = c.as_slice.ensures.value ∙ along.1 ∙ ap (λ first. first ++ along.0) c.new-list.ensures.items in
    takes_offset c.args.reader.now _ _ reads.0 along.0 c.i32_of.result reads.2 reads.1 start encodes
    (c.i32_of.ensures ∙ ap (λ l. i32_of (operators l)) list)
