use Rattle.std.proofs.Common.{◌≡◌, [], ◌∷◌, ◌++◌, Ok, sym, subst, ◌∙◌, rules}
use Rattle.wasm_operators.specs.below.Source.{reader_of}
use Rattle.wasm_operators.specs.instr.Roles.{roles_of}
use Rattle.wasm_operators.specs.Expression.{operators}
use Rattle.uses.proofs.Steps.{HasGiven, gives_none, gives_one, gives_all}
use Rattle.uses.proofs.iterating.iterated.Goals as goal

pub operators-init : goal.operators-init
operators-init c =
    let r = reader_of c.args.features 0 c.args.bytes.now in
    let none = gives_none r c.new-reader.result (c.new-reader.ensures.reader ∙ c.new_features.ensures) c.new-reader.ensures.read_so_far in
    rw (c.into_iter_with_offsets-items.ensures, c.new-found.ensures.items) none

pub operators-preserved : goal.operators-preserved
operators-preserved c =
    let r = reader_of c.args.features 0 c.args.bytes.now in
    let placed = c.in_ok-placed.placed in
    let pushed : c.push.new.self.items ≡ c.operators.found.items ++ placed ∷ [] = search rules in
    let item : c.in-Some.item ≡ Ok placed = search rules in
    let steps = rw item at c.in-Some.ensures.steps in
    let next = gives_one r c.operators.items c.next.new.self c.operators.found.items placed.0 placed.1 c.layouts.ensures.joined c.one_operator.ensures.any
    c.operators.invariant steps.1.0 steps.1.1 steps.2 in
    subst (HasGiven r c.next.new.self) (sym pushed) next

pub returns : goal.returns
returns c =
    let r = reader_of c.args.features 0 c.args.bytes.now in
    let given = c.operators.invariant in
    let along = (c.path_is_run.ensures (roles_of (operators c.operators.found.items)) c.operators.items.reader.frames).0 given.read_so_far.path in
    gives_all r c.operators.items c.operators.found.items c.rules_run_beginnings.ensures given c.in_default.ensures.steps.0 along
