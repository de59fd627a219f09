use Rattle.std.proofs.Common.{◌≢◌, ◌++◌, replicate, [], ap, sym, subst, ◌∙◌}
use Rattle.wasm_operators.specs.below.declared.message.Message.TheVariants as message
use Rattle.wasm_operators.specs.instr.Roles.{roles_of}
use Rattle.wasm_operators.specs.instr.declared.operator.Operator.TheVariants as operator
use Rattle.wasm_operators.specs.Expression.{Placed, operators, AreWalk, IsLongestBeginning}
use Rattle.uses.specs.Frames.{open_after}
use Rattle.uses.specs.Input.{input}
use Rattle.uses.proofs.FirstParts.{longest_at, ends_complete}
use Rattle.uses.proofs.longest.longest_beginning.Goals as goal

abbrev IsCompleted : Placed → Type 0
IsCompleted placed = AreWalk (operators placed ++ replicate (open_after 1 (operators placed)) operator.End)

pub returns-in-Ok-clause-longest : goal.returns-in-Ok-clause-longest
returns-in-Ok-clause-longest c =
    let s = input c.args.features c.args.bytes.now in
    let along = (c.in-Ok.ensures.rest [] c.new-reader.ensures.read_so_far).tree in
    let list = c.keep.ensures.operators ∙ along.1 ∙ ap (λ first. first ++ along.0) c.new-found.ensures.items in
    let encodes = rw (c.new-reader.ensures.reader ∙ c.new_features.ensures) at along.2.encodes in
    subst (IsLongestBeginning s) (sym list) (c.whole_is_longest.ensures [] s along.0 tt encodes)

pub returns-in-Ok-clause-completed : goal.returns-in-Ok-clause-completed
returns-in-Ok-clause-completed c =
    let along = (c.in-Ok.ensures.rest [] c.new-reader.ensures.read_so_far).tree in
    let list = along.1 ∙ ap (λ first. first ++ along.0) c.new-found.ensures.items in
    let run = (c.rules_accept_walks.ensures (roles_of (operators along.0))).1 along.2.encodes.1 in
    rw (c.keep.ensures.operators, c.keep.ensures.ends) (subst IsCompleted (sym list) (ends_complete (operators along.0) [] c.ends_complete.ensures run))

pub returns-clause-longest : goal.returns-clause-longest
returns-clause-longest c =
    let along = (c.in-Err.ensures.rest [] c.new-reader.ensures.read_so_far).beginning in
    let list = c.keep-in_default.ensures.operators ∙ along.1 ∙ ap (λ first. first ++ along.0) c.new-found.ensures.items in
    let other : c.in-Err.error.message ≢ message.OutOfMemory = λ m. c.in_default.not-OutOfMemory (c.message.ensures ∙ m) in
    let longest = longest_at c.in-Err.error.message _ along.0 other along.2.at in
    subst (IsLongestBeginning (input c.args.features c.args.bytes.now)) (sym list) (rw (c.new-reader.ensures.reader ∙ c.new_features.ensures) at longest)

pub returns-clause-completed : goal.returns-clause-completed
returns-clause-completed c =
    let along = (c.in-Err.ensures.rest [] c.new-reader.ensures.read_so_far).beginning in
    let list = along.1 ∙ ap (λ first. first ++ along.0) c.new-found.ensures.items in
    let open_now = c.read_all.new.self.frames in
    let run = (c.path_is_run.ensures (roles_of (operators along.0)) open_now).0 along.2.read_so_far.path in
    rw (c.keep-in_default.ensures.operators, c.keep-in_default.ensures.ends) (subst IsCompleted (sym list) (ends_complete (operators along.0) open_now c.ends_complete.ensures run))
