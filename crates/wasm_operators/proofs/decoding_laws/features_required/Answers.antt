use Rattle.wasm_operators.proofs.GuardedRefusals.{lacking_only, lacking_comes}
use Rattle.wasm_operators.proofs.decoding_laws.features_required.Goals as goal

pub returns-clause-only : goal.returns-clause-only
returns-clause-only c = λ name r offset h. lacking_only c.args.features c.args.frame name r offset h

pub returns-clause-comes : goal.returns-clause-comes
returns-clause-comes c = λ g r begins lacks. lacking_comes c.args.features c.args.frame g r begins lacks
