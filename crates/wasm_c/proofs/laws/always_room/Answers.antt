use Rattle.wasm_c.proofs.Room.{room_along}
use Rattle.wasm_c.proofs.laws.always_room.Goals as goal

pub returns : goal.returns
returns c = room_along c.one_depth.ensures.any c.args.features c.frames_opened.ensures.half
