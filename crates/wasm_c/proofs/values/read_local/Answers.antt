use Rattle.std.proofs.Common.{◌+◌, ◌<◌, ◌≤◌, refl, subst, ◌∙◌, arith, inl, inr}
use Rattle.wasm_operators.specs.below.Number.{EncodesUnsigned}
use Rattle.wasm_operators.specs.below.Source.{Reader, HasRead, IsRefusal, U32Fault}
use Rattle.wasm_operators.specs.Locals.{max_locals}
use Rattle.wasm_c.proofs.values.read_local.Goals as goal

pub returns-in-Err : goal.returns-in-Err
returns-in-Err c =
    let e = c.in-Err.e in
    let h = c.in-Err.ensures in
    let refused = subst (λ (r : Reader). IsRefusal (EncodesUnsigned 32) e r × U32Fault e.message r e.offset) c.clone-ahead.ensures (h.1, h.2) in
    (refl, inl refused)

pub returns-then-total-from : goal.returns-then-total-from
returns-then-total-from c =
    let mid = c.read_var_u32.new.self in
    let number = c.in-Ok.number in
    let many : max_locals < c.args.total + number = omega arith in
    let read = subst (λ (r : Reader). HasRead (EncodesUnsigned 32) number r mid) c.clone-ahead.ensures c.in-Ok.ensures in
    (refl, inr (number, mid, read, inl (many, c.new.ensures.message, c.new.ensures.offset ∙ c.original_position.ensures)))

pub returns-in-Ok-read : goal.returns-in-Ok-read
returns-in-Ok-read c =
    let mid = c.read_var_u32.new.self in
    let number = c.in-Ok.number in
    let fits : c.args.total + number ≤ max_locals = omega arith in
    let read = subst (λ (r : Reader). HasRead (EncodesUnsigned 32) number r mid) c.clone-ahead.ensures c.in-Ok.ensures in
    ((number, c.in-Ok-read.ty), mid, read, fits, c.in-Ok-read.ensures, c.of_declaration.ensures)

pub returns-in-Err-read : goal.returns-in-Err-read
returns-in-Err-read c =
    let mid = c.read_var_u32.new.self in
    let number = c.in-Ok.number in
    let fits : c.args.total + number ≤ max_locals = omega arith in
    let read = subst (λ (r : Reader). HasRead (EncodesUnsigned 32) number r mid) c.clone-ahead.ensures c.in-Ok.ensures in
    let refused = c.in-Err-read.ensures in
    (refl, inr (number, mid, read, inr (fits, refused.1, refused.2)))
