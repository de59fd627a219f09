use Rattle.std.proofs.Common.{length, inl, inr}
use Rattle.wasm_grammars.specs.Grammar.{thing}
use Rattle.wasm_grammars.specs.Parts.{counted}
use Rattle.wasm_write_grammars.specs.Writing.{ListReason}
use Rattle.wasm_write_grammars.proofs.Owing.{owes, wrote, reserved, part_fails, rest_fails}
use Rattle.wasm_write_grammars.proofs.WrittenMembers.{only_count}
use Rattle.wasm_encode_sections.proofs.lists.append_list.Goals as goal

pub returns-in_err-append_size : goal.returns-in_err-append_size
returns-in_err-append_size g c =
    let item = thing (g.T.Write.grammar c.args.features) in
    part_fails (ListReason c.args.limit c.args.desc (g.T.Write.reason c.args.features)) _ c.from_residual.ensures.1
    (owes (counted c.args.limit c.args.desc item) c.args.members.now c.args.out.now.items) (length c.args.members.now)
    (only_count c.args.limit c.args.desc item c.args.members.now) c.in_err-append_size.ensures (λ r. inl r)

pub returns-in_err-append_each : goal.returns-in_err-append_each
returns-in_err-append_each g c =
    let item = thing (g.T.Write.grammar c.args.features) in
    let list = owes (counted c.args.limit c.args.desc item) c.args.members.now c.args.out.now.items in
    let count = reserved (wrote list (length c.args.members.now) (only_count c.args.limit c.args.desc item c.args.members.now) c.in_ok-append_size.ensures) in
    rest_fails (ListReason c.args.limit c.args.desc (g.T.Write.reason c.args.features)) _ c.from_residual-in_err-append_each.ensures.1 count c.in_err-append_each.ensures
    (λ r. inr r)

pub returns : goal.returns
returns g c =
    let item = thing (g.T.Write.grammar c.args.features) in
    let list = owes (counted c.args.limit c.args.desc item) c.args.members.now c.args.out.now.items in
    let count = reserved (wrote list (length c.args.members.now) (only_count c.args.limit c.args.desc item c.args.members.now) c.in_ok-append_size.ensures) in
    count.pays _ c.in_ok-append_each.ensures
