use Rattle.wasm_operators.proofs.GuardedRefusals.{misplaced_only, misplaced_comes}
use Rattle.wasm_operators.proofs.decoding_laws.wrong_frames.Goals as goal

pub returns-clause-only : goal.returns-clause-only
returns-clause-only c = λ name needed r offset h. misplaced_only c.args.features c.args.frame name needed r offset h

pub returns-clause-comes : goal.returns-clause-comes
returns-clause-comes c = λ g r begins has bars. misplaced_comes c.args.features c.args.frame g r begins has bars
