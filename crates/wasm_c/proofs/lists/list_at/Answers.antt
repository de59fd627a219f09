use Rattle.wasm_c.proofs.Members.{list_read, list_refused}
use Rattle.wasm_c.proofs.lists.list_at.Goals as goal

pub returns-in-Ok : goal.returns-in-Ok
returns-in-Ok g c =
    list_read g.L.MemberList.members_of c.in-Ok.op c.place_members.result c.store_count.result c.args.bytes.now c.args.offset c.args.features c.args.at c.args.index
    c.args.count.now c.store_count.new.count c.args.out.now c.place_members.new.out c.in-Ok.ensures c.place_members.ensures c.store_count.ensures.some
    c.store_count.ensures.none

pub returns-in-Err : goal.returns-in-Err
returns-in-Err g c =
    list_refused g.L.MemberList.members_of c.in-Err.refused c.args.bytes.now c.args.offset c.args.features c.args.at c.args.index c.args.count.now c.args.out.now
    c.in-Err.ensures
