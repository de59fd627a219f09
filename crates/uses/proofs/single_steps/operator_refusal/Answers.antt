use Rattle.std.proofs.Common.{sym, ◌∙◌}
use Rattle.uses.proofs.SingleSteps.{read_fault}
use Rattle.uses.proofs.single_steps.operator_refusal.Goals as goal

pub returns : goal.returns
returns c =
    let says = rw (c.features.ensures, c.get_binary_reader.ensures) at c.refusal_messages.ensures.any in
    read_fault c.next_refusal.result c.args.operators.now c.next_refusal.new.operators c.in-Some.frame (sym c.current_frame.ensures ∙ c.in-Some.is) says
    c.next_refusal.ensures
