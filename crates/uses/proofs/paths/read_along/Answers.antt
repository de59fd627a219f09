use Rattle.uses.proofs.Grown.{path_grows}
use Rattle.uses.proofs.paths.read_along.Goals as goal

pub returns : goal.returns
returns c = path_grows c.read.result c.args.operators.now c.read.new.self c.step_keeps_path.ensures c.read.ensures
