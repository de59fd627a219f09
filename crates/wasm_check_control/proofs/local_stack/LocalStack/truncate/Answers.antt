use Rattle.std.proofs.Common.{sym, subst}
use Rattle.wasm_check_control.specs.SetLocals.{ArePlaced}
use Rattle.wasm_check_control.proofs.LocalStacks.{placed_take}
use Rattle.wasm_check_control.proofs.local_stack.LocalStack.truncate.Goals as goal

pub invariant_of-self : goal.invariant_of-self
invariant_of-self c =
    subst (λ l. ArePlaced l c.self.inside.places.items) (sym c.truncate.ensures.items) (placed_take c.self.inside.locals.items c.self.inside.places.items c.self.invariant c.args.count)
