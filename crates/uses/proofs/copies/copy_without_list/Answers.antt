use Rattle.uses.proofs.copies.copy_without_list.Goals as goal

pub unreachable-requires : goal.unreachable-requires
unreachable-requires c = c.requires c.in-Err.ensures.err.0
