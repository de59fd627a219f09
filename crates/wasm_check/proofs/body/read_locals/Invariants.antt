use Rattle.std.proofs.Common.{◌≡◌, ◌+◌, ◌-◌, ◌≤◌, List, length}
use Rattle.wasm_operators.specs.Locals.{Declaration, HasStepped}
use Rattle.wasm_check_locals.specs.Locals.{locals_of}
use Rattle.wasm_check.specs.Bodies.{max_function_locals, HaveValidTypes}
use Rattle.wasm_check.proofs.body.read_locals.Given as goal

abbrev pub invariant-loop-declaration : goal.invariant-loop-declaration
invariant-loop-declaration g l =
    (l.declaration ≤ l.initial.reader.count) × (l.reader.count ≡ l.initial.reader.count)
    × ((declarations : List Declaration) × HasStepped declarations l.body (record { locals = l.reader; left = l.initial.reader.count - l.declaration })
    × HaveValidTypes (g.M.ModuleContext.environment l.module).order declarations × (l.locals ≡ locals_of declarations))
    × (l.params + length l.locals + l.left ≡ max_function_locals) × (l.reader.total ≡ length l.locals)
