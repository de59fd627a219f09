use Rattle.std.proofs.Common.{◌∙◌}
use Rattle.uses.proofs.single_steps.asked_twice.Goals as goal

pub unreachable-requires : goal.unreachable-requires
unreachable-requires c =
    c.not_taken.ensures.any c.in-Some.first c.args.operators.now c.next_refusal.new.operators c.next_refusal-2.new.operators c.in-None.ensures.0
    c.in-Some.ensures (λ m. c.in_default-message.not-OutOfMemory (c.message.ensures ∙ m)) c.in-None.ensures.1

pub returns-clause-again : goal.returns-clause-again
returns-clause-again c = λ two.
    c.refused_again.ensures.any c.in-Some.first c.in-Some-next_refusal.second c.args.operators.now c.next_refusal.new.operators c.next_refusal-2.new.operators
    c.in-Some.ensures (λ m. c.in_default-message.not-OutOfMemory (c.message.ensures ∙ m)) c.in-Some-next_refusal.ensures two
