use Rattle.std.proofs.Common.{◌≡◌, ◌≤◌, ◌+◌, ◌++◌, ◌∷◌, [], rules, arith}
use Rattle.std.specs.Prelude.{vec_len, vec_capacity}
use Rattle.wasm_grammars.specs.Grammar.{thing}
use Rattle.wasm_grammars.specs.Parts.{counted}
use Rattle.wasm_grammars.proofs.Members.{list_begins, member, member_fails, list_ends}
use Rattle.wasm_grammars.proofs.Steps.{begins_at, then, allocated, fails_at, thing_fails, read_by_features, fails_by_features, stays}
use Rattle.wasm_grammars.proofs.lists.read_counted.Goals as goal

pub returns-in_err-count : goal.returns-in_err-count
returns-in_err-count g c =
    let list = begins_at (counted c.args.limit c.args.desc (thing (g.T.Read.grammar c.args.reader.now.features))) c.clone-ahead.ensures c.requires in
    stays _ c.from_residual.ensures.1 (fails_at list c.in_err-count.ensures)

pub loop-member-init : goal.loop-member-init
loop-member-init g c =
    let item = thing (g.T.Read.grammar c.args.reader.now.features) in
    let list = begins_at (counted c.args.limit c.args.desc item) c.clone-ahead.ensures c.requires in
    (list_begins item c.in_ok-count.count _ c.in-Ok.ensures.items (allocated (then list c.in_ok-count.ensures)), c.in-Ok.ensures.len, c.in-Ok.ensures.capacity)

pub returns-in_err-item : goal.returns-in_err-item
returns-in_err-item g c =
    let item = thing (g.T.Read.grammar c.args.reader.now.features) in
    let comes = c.loop-member.invariant.0 in
    stays _ c.from_residual-in_err-item.ensures.1 (member_fails item c.in_ok-count.count c.loop-member._member c.loop-member.items.items comes c.loop-member-test.true
    (thing_fails (g.T.Read.grammar c.args.reader.now.features) c.args.start c.in_err-item.field-0.0 c.loop-member.ahead comes.later
    (fails_by_features (g.T.Read.grammar) comes c.in_err-item.ensures.1)))

pub loop-member-preserved : goal.loop-member-preserved
loop-member-preserved g c =
    let item = thing (g.T.Read.grammar c.args.reader.now.features) in
    let comes = c.loop-member.invariant.0 in
    let items : c.push.new.self.items ≡ c.loop-member.items.items ++ c.in_ok-item.item ∷ [] = search rules in
    let length_is : vec_len c.push.new.self ≡ c.loop-member._member + 1 = search rules in
    let room : c.in_ok-count.count ≤ vec_capacity c.push.new.self = omega (arith, c.loop-member.invariant.2, c.push.ensures.capacity) in (
      member item c.in_ok-count.count c.loop-member._member c.loop-member.items.items comes c.loop-member-test.true c.in_ok-item.item items
          (read_by_features (g.T.Read.grammar) comes _ c.in_ok-item.ensures),
      length_is,
      room,
    )

pub returns : goal.returns
returns g c =
    let all : c.loop-member._member ≡ c.in_ok-count.count = omega arith in
    list_ends (thing (g.T.Read.grammar c.args.reader.now.features)) c.in_ok-count.count c.loop-member._member c.loop-member.items.items c.loop-member.invariant.0 all c.from_vec.result c.from_vec.ensures
