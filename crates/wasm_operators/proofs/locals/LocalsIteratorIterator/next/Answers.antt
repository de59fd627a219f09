use Rattle.std.proofs.Common.{◌≡◌, ◌<◌, Err, refl, subst, ap, arith}
use Rattle.wasm_operators.specs.Locals.{LocalsLeft, ReadsDeclaration}
use Rattle.wasm_operators.proofs.locals.LocalsIteratorIterator.next.Goals as goal

pub returns-in-Err-clause-steps : goal.returns-in-Err-clause-steps
returns-in-Err-clause-steps c =
    let left : c.self.inside.left ≡ c.args.self.now.left = ap (λ (z : LocalsLeft). z.left) c.self.view_is in
    let some : 0 < c.args.self.now.left = omega (arith, left) in
    (some, refl, subst (λ (z : LocalsLeft). ReadsDeclaration (Err c.in-Err.e) z.locals c.read.new.self) c.self.view_is c.in-Err.ensures)
