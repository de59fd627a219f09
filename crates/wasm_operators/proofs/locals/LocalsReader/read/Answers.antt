use Rattle.std.proofs.Common.{◌≡◌, ◌+◌, ◌<◌, ◌≤◌, Ok, Err, refl, subst, ◌∙◌, arith}
use Rattle.wasm_operators.specs.Locals.{Locals, ReadsDeclaration, max_locals}
use Rattle.wasm_operators.proofs.Steps.{locals_of, number_refused_next, type_refused_next, too_many_next, declaration_read}
use Rattle.wasm_operators.proofs.locals.LocalsReader.read.Goals as goal

pub returns-in-Err : goal.returns-in-Err
returns-in-Err c =
    let i = c.self.inside in
    let h = number_refused_next c.in-Err.e i.reader c.read_var_u32.new.self i.count i.total c.in-Err.ensures in
    subst (λ (z : Locals). ReadsDeclaration (Err c.in-Err.e) z (locals_of c.read_var_u32.new.self i.count i.total)) c.self.view_is h

pub returns-in_default : goal.returns-in_default
returns-in_default c =
    let i = c.self.inside in
    let many : max_locals < i.total + c.in-Ok.number = omega arith in
    let h = too_many_next c.new.result i.reader c.read_var_u32.new.self c.rewind.new.self i.count i.total c.in-Ok.number c.current_position-start.result
    c.in-Ok.ensures many c.new.ensures.message (c.new.ensures.offset ∙ c.original_position-position.ensures) c.current_position-start.ensures
    c.rewind.ensures in
    subst (λ (z : Locals). ReadsDeclaration (Err c.new.result) z (locals_of c.rewind.new.self i.count i.total)) c.self.view_is h

pub returns-in-Ok-read : goal.returns-in-Ok-read
returns-in-Ok-read c =
    let i = c.self.inside in
    let fits : i.total + c.in-Ok.number ≤ max_locals = omega arith in
    let total : c.in-Some.total ≡ i.total + c.in-Ok.number = omega arith in
    let h = declaration_read i.reader c.read_var_u32.new.self c.read.new.reader i.total c.in-Ok.number c.in-Ok-read.ty c.in-Ok.ensures
    c.in-Ok-read.ensures fits in
    subst (λ (z : Locals). ReadsDeclaration (Ok (c.in-Ok.number, c.in-Ok-read.ty)) z (locals_of c.read.new.reader i.count c.in-Some.total)) c.self.view_is
    (h, refl, total)

pub returns-in-Err-read : goal.returns-in-Err-read
returns-in-Err-read c =
    let i = c.self.inside in
    let fits : i.total + c.in-Ok.number ≤ max_locals = omega arith in
    let h = type_refused_next c.in-Err-read.e i.reader c.read_var_u32.new.self c.read.new.reader c.rewind-in-Err-read.new.self i.count i.total c.in-Ok.number
    c.current_position-start.result c.in-Ok.ensures fits c.in-Err-read.ensures c.current_position-start.ensures
    c.rewind-in-Err-read.ensures in
    subst (λ (z : Locals). ReadsDeclaration (Err c.in-Err-read.e) z (locals_of c.rewind-in-Err-read.new.self i.count i.total)) c.self.view_is h
