use Rattle.std.proofs.Common.{length, arith, subst, refl}
use Rattle.std.proofs.lemmas.List.{take_all}
use Rattle.wasm_below.specs.Number.{EncodesUnsigned}
use Rattle.wasm_imm.specs.Lists.{EncodesEach}
use Rattle.wasm_operators.specs.Locals.{EncodesDeclaration}
use Rattle.wasm_encode_numbers.specs.Appended.{Appends}
use Rattle.wasm_encode_immediates.proofs.ListTexts.{none_appended, one_more}
use Rattle.wasm_encode.proofs.Lists.{locals_appended}
use Rattle.wasm_encode.proofs.body.write_locals.Goals as goal

pub returns-in-Err-clause-written : goal.returns-in-Err-clause-written
returns-in-Err-clause-written c = (c.reserve.ensures.items, λ some. absurd (some refl))

pub loop-number-init : goal.loop-number-init
loop-number-init c =
    let space = c.in-Ok.ensures.ok in
    let more = c.reserve.ensures.capacity in
    let l = c.write_u32.ensures.len in
    let k = c.write_u32.ensures.capacity in
    record {
      each = none_appended EncodesDeclaration c.write_u32.new.out.items;
      space = omega (arith, space, l, k);
      capacity = omega (arith, more, k);
    }

pub loop-number-preserved : goal.loop-number-preserved
loop-number-preserved c =
    let lt = c.loop-number-test.true in
    let space = c.loop-number.invariant.space in
    let more = c.loop-number.invariant.capacity in
    let l = c.write_declaration.ensures.len in
    let k = c.write_declaration.ensures.capacity in
    record {
      each = one_more EncodesDeclaration c.args.declarations.now c.loop-number.number-index c.loop-number-item.result _ _ _ lt c.loop-number-item.is c.loop-number.invariant.each c.write_declaration.ensures.written;
      space = omega (arith, lt, space, l, k);
      capacity = omega (arith, more, k);
    }

pub returns-after-loop-number-clause-written : goal.returns-after-loop-number-clause-written
returns-after-loop-number-clause-written c =
    let done = c.loop-number-test.false in
    let first = subst (λ z. Appends (EncodesUnsigned 32) (length c.args.declarations.now) z c.write_u32.new.out.items) c.reserve.ensures.items c.write_u32.ensures.written in
    let each = subst (λ z. Appends (EncodesEach EncodesDeclaration) z c.write_u32.new.out.items c.loop-number.out.items)
    (take_all c.loop-number.number-index c.args.declarations.now (omega (arith, done))) c.loop-number.invariant.each in
    locals_appended c.args.declarations.now (length c.args.declarations.now) _ _ _ refl first each
