use Rattle.wasm_operators.specs.below.Source.{reader_of}
use Rattle.wasm_operators.specs.Locals.{HasStepped}
use Rattle.uses.proofs.locals.read_body.Given as goal

abbrev pub invariant-declarations : goal.invariant-declarations
invariant-declarations l = HasStepped l.locals.items (reader_of l.fn.features 0 l.fn.bytes) l.items

abbrev pub decreases-declarations : goal.decreases-declarations
decreases-declarations l = l.items.left
