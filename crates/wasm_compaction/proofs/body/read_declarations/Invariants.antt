use Rattle.wasm_operators.specs.Locals.{HasStepped}
use Rattle.wasm_compaction.proofs.body.read_declarations.Given as goal

abbrev pub invariant-declarations : goal.invariant-declarations
invariant-declarations l = HasStepped l.declarations.items l.fn.body l.items

abbrev pub decreases-declarations : goal.decreases-declarations
decreases-declarations l = l.items.left
