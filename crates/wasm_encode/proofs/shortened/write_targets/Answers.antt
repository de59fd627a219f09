use Rattle.std.proofs.Common.{◌≡◌, arith, sym, ap, subst, ◌∙◌, length, length-append}
use Rattle.wasm_below.specs.Number.{EncodesUnsigned}
use Rattle.wasm_imm.specs.BranchTables.{numbers_of}
use Rattle.wasm_imm.specs.Lists.{EncodesEach}
use Rattle.wasm_encode.proofs.Targets.{none_written, next_written}
use Rattle.wasm_encode.proofs.shortened.write_targets.Goals as goal

pub loop-target-init : goal.loop-target-init
loop-target-init c =
    let t = c.args.table.now in
    let many = c.targets-target-items.ensures in
    let same : c.into_iter-target-iterator.result ≡ c.targets-target-items.result = c.into_iter-target-iterator.ensures.into_iter_gives in
    let all = c.target_numbers.ensures t.count t.targets c.targets-target-items.result many in
    let space = c.requires in
    let (w, le) = none_written (numbers_of t.targets) t.targets c.into_iter-target-iterator.result c.args.out.now.items (all ∙ sym same) (subst (EncodesEach (EncodesUnsigned 32) t.targets) (sym same) many.1) in
    (tt, tt, w, omega (arith, space, le), omega (arith, le), omega arith)

pub loop-target-preserved-in-Ok : goal.loop-target-preserved-in-Ok
loop-target-preserved-in-Ok c =
    let inv = c.loop-target.invariant in
    let first = c.returned_targets.ensures.next c.loop-target.target-iterator c.next.new.self c.in-Some.target c.in-Ok.label c.in-Some.ensures.steps c.in-Ok.is in
    let a = c.write_u32.ensures.written in
    let (v, less) = next_written _ _ _ _ _ _ c.in-Ok.label inv.2 first a in
    let old = c.loop-target.out.ok.0 in
    let new = c.write_u32.new.out.ok.0 in
    let l = ap length a.appended ∙ length-append c.loop-target.out.items a.text in
    let k = c.write_u32.ensures.capacity in
    let i3 = inv.3 in
    let i4 = inv.4 in
    let i5 = inv.5 in
    (tt, tt, v, omega (arith, less, old, new, l, k, i3), omega (arith, less, old, new, l, i4), omega (arith, k, i5))
