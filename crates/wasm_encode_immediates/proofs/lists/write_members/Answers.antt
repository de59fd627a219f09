use Rattle.std.proofs.Common.{length, arith, subst, refl}
use Rattle.std.proofs.lemmas.List.{take_all}
use Rattle.wasm_below.specs.Number.{EncodesUnsigned}
use Rattle.wasm_imm.specs.Lists.{EncodesEach}
use Rattle.wasm_encode_numbers.specs.Appended.{Appends}
use Rattle.wasm_encode_immediates.proofs.ListTexts.{none_appended, one_more, list_appended, list_fails, not_grown}
use Rattle.wasm_encode_immediates.proofs.lists.write_members.Goals as goal

pub returns-then-count-limit : goal.returns-then-count-limit
returns-then-count-limit g c =
    let t = c.if-count-limit.true in
    (list_fails g.T.WritesMember.encodes c.args.limit c.args.members.now _ (omega (arith, t)), omega arith)

pub returns-in-Err : goal.returns-in-Err
returns-in-Err g c = (not_grown g.T.WritesMember.encodes c.args.limit c.args.members.now _ _ c.reserve.ensures.items, c.reserve.ensures.capacity)

pub loop-member-init : goal.loop-member-init
loop-member-init g c =
    let space = c.in-Ok.ensures.ok in
    let more = c.reserve.ensures.capacity in
    let l = c.write_u32.ensures.len in
    let k = c.write_u32.ensures.capacity in
    record {
      each = none_appended g.T.WritesMember.encodes c.write_u32.new.out.items;
      space = omega (arith, space, l, k);
      capacity = omega (arith, more, k);
    }

pub loop-member-preserved : goal.loop-member-preserved
loop-member-preserved g c =
    let lt = c.loop-member-test.true in
    let space = c.loop-member.invariant.space in
    let more = c.loop-member.invariant.capacity in
    let l = c.write_member.ensures.len in
    let k = c.write_member.ensures.capacity in
    record {
      each = one_more g.T.WritesMember.encodes c.args.members.now c.loop-member.member-index c.member-item.result _ _ _ lt c.member-item.is c.loop-member.invariant.each c.write_member.ensures.written;
      space = omega (arith, lt, space, l, k);
      capacity = omega (arith, more, k);
    }

pub returns-after-loop-member : goal.returns-after-loop-member
returns-after-loop-member g c =
    let within = c.if-count-limit.false in
    let done = c.loop-member-test.false in
    let first = subst (λ z. Appends (EncodesUnsigned 32) (length c.args.members.now) z c.write_u32.new.out.items) c.reserve.ensures.items c.write_u32.ensures.written in
    let each = subst (λ z. Appends (EncodesEach g.T.WritesMember.encodes) z c.write_u32.new.out.items c.loop-member.out.items)
    (take_all c.loop-member.member-index c.args.members.now (omega (arith, done))) c.loop-member.invariant.each in
    (list_appended g.T.WritesMember.encodes c.args.limit (length c.args.members.now) c.args.members.now _ _ _ refl within first each, c.loop-member.invariant.capacity)
