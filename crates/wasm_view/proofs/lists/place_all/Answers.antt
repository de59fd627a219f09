use Rattle.wasm_view.proofs.Placed.{none_placed}
use Rattle.wasm_view.proofs.lists.place_all.Goals as goal

pub members-init : goal.members-init
members-init g c = none_placed c.args.from c.args.out.now
