use Rattle.uses.proofs.Declared.{begins_with}
use Rattle.uses.proofs.bodies.first_declaration.Goals as goal

pub returns : goal.returns
returns c = begins_with c.read.result c.args.body.now _ c.read.new.self c.in_ok-get_locals_reader.ensures c.read.ensures
