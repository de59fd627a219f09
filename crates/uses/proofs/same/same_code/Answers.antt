use Rattle.uses.proofs.same.same_code.Goals as goal

pub returns : goal.returns
returns c = λ is. c.shared_opcodes.ensures c.args.a.now c.args.b.now c.requires (c.have_same_code.ensures is)
