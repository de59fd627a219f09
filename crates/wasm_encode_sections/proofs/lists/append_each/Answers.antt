use Rattle.std.proofs.Common.{◌≡◌, ◌+◌, ◌++◌, ◌∷◌, [], length, take, drop, sym, rules, arith}
use Rattle.std.proofs.lemmas.List.{take_more, take_all}
use Rattle.wasm_grammars.specs.Grammar.{thing}
use Rattle.wasm_grammars.specs.Parts.{more}
use Rattle.wasm_write_grammars.specs.Writing.{MemberReason}
use Rattle.wasm_write_grammars.proofs.Owing.{owes, of_thing, given, extends_then}
use Rattle.wasm_write_grammars.proofs.WrittenMembers.{members_begin, member_written, member_lacks, members_written, parts_at}
use Rattle.wasm_encode_sections.proofs.lists.append_each.Goals as goal

pub loop-member-init : goal.loop-member-init
loop-member-init g c =
    let item = thing (g.T.Write.grammar c.args.features) in
    members_begin item (length c.args.members.now) (owes (more (length c.args.members.now) item []) c.args.members.now c.args.out.now.items)

pub returns-in_err-append_to : goal.returns-in_err-append_to
returns-in_err-append_to g c =
    let item = thing (g.T.Write.grammar c.args.features) in
    let xs = c.args.members.now in
    let i = c.loop-member.member-index in
    let x = c.member-item.result in
    let next : take (i + 1) xs ≡ take i xs ++ x ∷ [] = search (rules, take_more) in
    let (extends, why) = c.in_err-append_to.ensures in
    given (MemberReason (g.T.Write.reason c.args.features)) _ c.from_residual.ensures.1 (extends_then c.loop-member.invariant.appended extends)
    (λ known. record {
      none = member_lacks item (length xs) i c.loop-member.invariant c.loop-member-test.true x next (λ place text p. (why known).none place text p);
      reason = (take i xs, drop (i + 1) xs, x, parts_at xs i x next, (why known).reason);
    })

pub loop-member-preserved : goal.loop-member-preserved
loop-member-preserved g c =
    let item = thing (g.T.Write.grammar c.args.features) in
    let xs = c.args.members.now in
    let i = c.loop-member.member-index in
    let next : take (i + 1) xs ≡ take i xs ++ c.member-item.result ∷ [] = search (rules, take_more) in
    member_written item (length xs) i c.loop-member.invariant c.loop-member-test.true c.member-item.result next (of_thing c.in_ok-append_to.ensures)

pub returns : goal.returns
returns g c =
    let item = thing (g.T.Write.grammar c.args.features) in
    let xs = c.args.members.now in
    let i = c.loop-member.member-index in
    let all : i ≡ length xs = omega arith in
    members_written item (length xs) i c.loop-member.invariant all (sym (take_all i xs c.loop-member-test.false))
