use Rattle.std.proofs.Common.{◌++◌, refl}
use Rattle.wasm_below.proofs.Ahead.{stays, advances}
use Rattle.wasm_below.proofs.TakesLemmas.{takes_then}
use Rattle.wasm_operators.specs.Locals.{EncodesDeclaration, DeclarationFault}
use Rattle.wasm_operators.proofs.LocalsLemmas.{number_fails, type_fails}
use Rattle.wasm_operators.proofs.declarations.read_declaration.Goals as goal

pub returns-in_err-number : goal.returns-in_err-number
returns-in_err-number c =
    let h = c.in_err-number.ensures in
    stays EncodesDeclaration DeclarationFault _ c.clone-ahead.ensures c.from_residual.ensures.1 (number_fails (h.1, h.2))

pub returns-in_err-ty : goal.returns-in_err-ty
returns-in_err-ty c =
    let h = c.in_err-ty.ensures in
    stays EncodesDeclaration DeclarationFault _ c.clone-ahead.ensures c.from_residual-in_err-ty.ensures.1 (type_fails _ _ _ c.in_ok-number.ensures (h.1, h.2))

pub returns : goal.returns
returns c =
    let t = c.in_ok-number.ensures in
    let l = c.in_ok-ty.ensures in
    advances EncodesDeclaration c.clone-ahead.ensures
    (t.0 ++ l.0, (t.0, l.0, refl, t.1, l.1), takes_then c.clone-ahead.result c.read_var_u32.new.self c.read.new.reader t.0 l.0 t.2 l.2)
