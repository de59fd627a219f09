use Rattle.std.proofs.Common.{sym, subst, ◌∙◌}
use Rattle.wasm_operators.specs.below.Source.{reader_of}
use Rattle.wasm_operators.specs.Expression.{EncodesExpression}
use Rattle.uses.specs.Input.{input}
use Rattle.uses.proofs.After.{HasFound, found_none, found_more, whole_after}
use Rattle.uses.proofs.again.operators_again.Goals as goal

pub tries-init : goal.tries-init
tries-init c =
    let r = reader_of c.args.features 0 c.args.bytes.now in
    let first = found_none r c.new-reader.result (c.new-reader.ensures.reader ∙ c.new_features.ensures) c.new-reader.ensures.read_so_far in
    subst (HasFound r c.new-reader.result) (sym c.new-found.ensures.items) first

pub tries-preserved : goal.tries-preserved
tries-preserved c =
    let r = reader_of c.args.features 0 c.args.bytes.now in
    let h = c.tries.invariant in
    let along = (c.in-Err.ensures.rest _ h.read_so_far).beginning in
    let next = found_more r c.tries.reader c.read_all.new.self c.tries.found.items along.0 along.2.text c.layouts.ensures.joined h along.2.takes along.2.laid along.2.read_so_far in
    subst (HasFound r c.read_all.new.self) (sym along.1) next

pub returns-in-Ok : goal.returns-in-Ok
returns-in-Ok c =
    let r = reader_of c.args.features 0 c.args.bytes.now in
    let h = c.tries.invariant in
    let along = (c.in-Ok.ensures.rest _ h.read_so_far).tree in
    subst (EncodesExpression (input c.args.features c.args.bytes.now)) (sym along.1) (whole_after r c.tries.reader c.tries.found.items along.0 c.layouts.ensures.joined h along.2.encodes)
