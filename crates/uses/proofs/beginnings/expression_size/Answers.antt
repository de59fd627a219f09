use Rattle.std.proofs.Common.{◌≡◌, ◌≢◌, [], sym, ap, ◌∙◌}
use Rattle.wasm_operators.specs.below.declared.message.Message.TheVariants as message
use Rattle.wasm_operators.specs.below.Source.{Reader}
use Rattle.wasm_operators.specs.instr.Roles.{roles_of}
use Rattle.wasm_operators.specs.Expression.{IsAny, operators}
use Rattle.uses.proofs.Begun.{begins_whole, begins_closed, longest_at}
use Rattle.uses.proofs.Ended.{begins_none}
use Rattle.uses.proofs.beginnings.expression_size.Goals as goal

pub returns-in-Ok-clause-some : goal.returns-in-Ok-clause-some
returns-in-Ok-clause-some c =
    let along = (c.in-Ok.ensures.rest [] c.new-reader.ensures.read_so_far).tree in
    let encodes = rw (c.new-reader.ensures.reader ∙ c.new_features.ensures) at along.2.encodes in
    begins_whole c.args.features c.args.bytes.now along.0 encodes

pub returns-in-OperatorsRemaining-clause-some : goal.returns-in-OperatorsRemaining-clause-some
returns-in-OperatorsRemaining-clause-some c =
    let along = (c.in-Err.ensures.rest [] c.new-reader.ensures.read_so_far).beginning in
    let same = c.new-reader.ensures.reader ∙ c.new_features.ensures in
    let said : c.in-Err.error.message ≡ message.OperatorsRemaining = sym c.message.ensures ∙ c.in-OperatorsRemaining.is in
    let other : c.in-Err.error.message ≢ message.OutOfMemory = λ m. absurd (cc (said, m)) in
    let closed = (c.run_messages.ensures.closed c.in-Err.error c.read_all.new.self along.2.stops other).0 said in
    let size = c.current_position.ensures ∙ ap (λ (r : Reader). r.position) c.get_binary_reader.ensures in
    begins_closed c.args.features c.args.bytes.now along.2.text c.read_all.new.self along.0 _ (rw same at along.2.takes) (rw same at along.2.laid)
    along.2.read_so_far.path closed size

pub returns-clause-none : goal.returns-clause-none
returns-clause-none c =
    let along = (c.in-Err.ensures.rest [] c.new-reader.ensures.read_so_far).beginning in
    let same = c.new-reader.ensures.reader ∙ c.new_features.ensures in
    let other : c.in-Err.error.message ≢ message.OutOfMemory = λ m. c.in_default.not-OutOfMemory (c.message.ensures ∙ m) in
    let is_open : c.read_all.new.self.frames ≡ [] → ⊥ = λ closed. c.in_default.not-OperatorsRemaining (c.message.ensures ∙ (c.run_messages.ensures.closed c.in-Err.error c.read_all.new.self along.2.stops other).1 closed) in
    let longest = rw same at (longest_at IsAny c.in-Err.error.message _ along.0 other along.2.at) in
    let runs = (c.path_is_run.ensures (roles_of (operators along.0)) c.read_all.new.self.frames).0 along.2.read_so_far.path in
    begins_none c.args.features c.args.bytes.now along.2.text c.read_all.new.self along.0 c.one_layout.ensures.beginning c.layouts.ensures.encoded
    (λ placed walk. (c.rules_accept_walks.ensures (roles_of (operators placed))).1 walk) longest (rw same at along.2.takes) (rw same at along.2.laid) runs is_open
