use Rattle.std.proofs.Common.{refl, sym, ap, ◌∙◌, arith, ◌++◌, ◌∷◌, [], length}
use Rattle.wasm_imm.specs.BranchTables.{numbers_of}
use Rattle.wasm_view.proofs.Placed.{none_placed}
use Rattle.wasm_view.proofs.PlacedTargets.{fits_below, one_fewer, one_further, none_left}
use Rattle.wasm_view.proofs.lists.place_targets.Goals as goal
use Rattle.wasm_imm.proofs.BranchTables.{numbers_are}
use Rattle.wasm_imm.proofs.Returned.{first_returned, none_returned, never_refused}

pub loop-target-init : goal.loop-target-init
loop-target-init c = (
  tt,
  tt,
  [],
  numbers_are c.args.table.now.targets _ c.targets-target-items.ensures.1 ∙ sym c.into_iter-target-iterator.ensures.into_iter_gives,
  refl,
  none_placed c.args.from c.args.out.now,
)

pub overflow_add-index : goal.overflow_add-index
overflow_add-index c =
    let first = first_returned c.loop-target.target-iterator c.next.new.self c.in-Some.target c.in-Ok.label c.in-Some.ensures.steps c.in-Ok.is in
    let inv = c.loop-target.invariant in
    let few = fits_below (numbers_of c.args.table.now.targets) inv.2 c.loop-target.target-iterator c.next.new.self c.in-Ok.label c.loop-target.index c.len-count.result
    first inv.3 inv.4 (c.len-count.ensures ∙ sym c.targets-target-items.ensures.0 ∙ ap length (sym (numbers_are c.args.table.now.targets _ c.targets-target-items.ensures.1))) c.len-count.type_inv in
    omega (arith, few)

pub loop-target-preserved-in-Ok : goal.loop-target-preserved-in-Ok
loop-target-preserved-in-Ok c =
    let first = first_returned c.loop-target.target-iterator c.next.new.self c.in-Some.target c.in-Ok.label c.in-Some.ensures.steps c.in-Ok.is in
    let inv = c.loop-target.invariant in (
      tt,
      tt,
      inv.2 ++ c.in-Ok.label ∷ [],
      one_fewer (numbers_of c.args.table.now.targets) inv.2 c.loop-target.target-iterator c.next.new.self c.in-Ok.label first inv.3,
      one_further inv.2 c.in-Ok.label c.loop-target.index inv.4,
      c.place.ensures inv.2 c.args.out.now inv.4 inv.5,
    )

pub loop-target-preserved : goal.loop-target-preserved
loop-target-preserved c = absurd (never_refused c.loop-target.target-iterator c.next.new.self c.in-Some.target c.in_default.field-0 c.in-Some.ensures.steps c.in_default.is)

pub returns : goal.returns
returns c =
    let inv = c.loop-target.invariant in
    let n = c.len-count.ensures ∙ sym c.targets-target-items.ensures.0 ∙ ap length (sym (numbers_are c.args.table.now.targets _ c.targets-target-items.ensures.1)) in
    none_left (numbers_of c.args.table.now.targets) inv.2 c.loop-target.target-iterator c.args.out.now c.loop-target.out c.len-count.result c.args.from
    (none_returned c.loop-target.target-iterator c.in-None.ensures.steps.0) inv.3 n inv.5
