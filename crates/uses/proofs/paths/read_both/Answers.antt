use Rattle.wasm_operators.specs.instr.Roles.{roles_of}
use Rattle.uses.proofs.paths.read_both.Goals as goal

pub read_in_step-requires : goal.read_in_step-requires
read_in_step-requires c =
    let h = c.requires in
    (h.place, c.path_determines_frames.ensures (roles_of h.before) c.args.second.now.frames c.args.first.now.frames h.other.path h.one.path)
