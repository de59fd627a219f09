use Rattle.wasm_operators.specs.Locals.{HasStepped}
use Rattle.uses.proofs.locals.read_locals.Given as goal

abbrev pub invariant-declarations : goal.invariant-declarations
invariant-declarations l = HasStepped l.locals.items l.fn.body l.items

abbrev pub decreases-declarations : goal.decreases-declarations
decreases-declarations l = l.items.left
