use Rattle.wasm_view.proofs.Placed.{lone_placed}
use Rattle.wasm_view.proofs.lists.TypesMemberList.place_members.Goals as goal

pub returns-in-TypedSelect : goal.returns-in-TypedSelect
returns-in-TypedSelect c = lone_placed c.args.op.now c.in-TypedSelect.ty c.args.from c.type_of.result c.args.out.now c.place.new.out c.in-TypedSelect.is c.type_of.ensures c.place.ensures
