use Rattle.uses.proofs.single_steps.read_in_step.Goals as goal

pub returns : goal.returns
returns c =
    let same = c.same_result.ensures.taken c.in_ok-operator.operator c.in_ok-other.other c.args.first.now c.read.new.self c.args.second.now c.read-2.new.self
    c.requires c.in_ok-operator.ensures c.in_ok-other.ensures in
    record { read = c.in_ok-operator.ensures; same = same.0; agree = same.1 }
