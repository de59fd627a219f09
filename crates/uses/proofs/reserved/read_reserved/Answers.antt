use Rattle.std.proofs.Common.{arith}
use Rattle.uses.proofs.Capacity.{only_lists, same_memory}
use Rattle.uses.proofs.reserved.read_reserved.Goals as goal

pub returns-clause-tree : goal.returns-clause-tree
returns-clause-tree c = λ before h. (c.read_all.ensures.rest before h).tree

pub returns-clause-memory : goal.returns-clause-memory
returns-clause-memory c =
    let shorter = rw (c.features.ensures, c.get_binary_reader.ensures) at c.layouts.ensures.length in
    let out = c.read_all.new.out in
    only_lists c.read_all.result c.args.operators.now c.read_all.new.self c.args.list.now.items out.items _ _ shorter c.requires.frames
    (let len = c.args.list.now.ok.0 in let fits = c.requires.list in omega (arith, len, fits)) c.read_all.ensures.kept c.read_all.ensures.runs c.read_all.ensures.depth
    (rw out.ok.0 at c.read_all.ensures.memory)

pub returns-clause-same : goal.returns-clause-same
returns-clause-same c = λ much.
    same_memory c.args.operators.now c.read_all.new.self c.read_all.ensures.runs.0 c.read_all.ensures.runs.2 much
