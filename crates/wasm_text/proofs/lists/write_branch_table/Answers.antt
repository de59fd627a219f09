use Rattle.std.proofs.Common.{◌++◌, string_bytes, flat_map, ap, sym, ◌∙◌}
use Rattle.std.proofs.lemmas.Result.{on_ok_weaker}
use Rattle.wasm_imm.specs.BranchTables.{numbers_of}
use Rattle.wasm_text.specs.Values.{number_text}
use Rattle.wasm_text.proofs.Targets.{target_written, table_written}
use Rattle.wasm_text.proofs.lists.write_branch_table.Goals as goal

pub loop-target-init : goal.loop-target-init
loop-target-init c = (
  tt,
  tt,
  ap (λ ts. string_bytes c.args.out.now ++ flat_map number_text ts)
      (c.into_iter-target-iterator.ensures.into_iter_gives ∙ sym (c.target_numbers.ensures c.args.table.now.count c.args.table.now.targets c.targets-target-items.result c.targets-target-items.ensures)),
)

pub loop-target-preserved-in-Continue-1 : goal.loop-target-preserved-in-Continue-1
loop-target-preserved-in-Continue-1 c = (
  tt,
  tt,
  target_written _ _ _ c.loop-target.target-iterator c.next.new.self c.in-Ok.label
      (c.returned_targets.ensures.next c.loop-target.target-iterator c.next.new.self c.in-Some.target c.in-Ok.label c.in-Some.ensures.steps c.in-Ok.is)
      c.in_ok-write_number.ensures c.loop-target.invariant.2,
)

pub loop-target-preserved : goal.loop-target-preserved
loop-target-preserved c = absurd (c.returned_targets.ensures.ok c.loop-target.target-iterator c.next.new.self c.in-Some.target c.in_default.field-0 c.in-Some.ensures.steps c.in_default.is)

pub returns : goal.returns
returns c = on_ok_weaker c.write_number-2.result
    (λ last. table_written _ _ _ c.loop-target.target-iterator (numbers_of c.args.table.now.targets) c.args.table.now.default
    (c.returned_targets.ensures.end c.loop-target.target-iterator c.in-None.ensures.steps.0) c.loop-target.invariant.2
    (last ∙ ap (λ d. string_bytes c.loop-target.out ++ number_text d) c.default.ensures))
    c.write_number-2.ensures
