use Rattle.std.proofs.Common.{◌-◌, take, refl, subst, ap, ◌∙◌}
use Rattle.wasm_below.specs.FromReader.{IsRefused}
use Rattle.wasm_below.specs.Source.{Reader, reader_of}
use Rattle.wasm_operators.specs.Constant.{EncodesConstantReader}
use Rattle.wasm_operators.specs.ConstantFaults.{ConstantFault, ConstantMayAllocate}
use Rattle.wasm_operators.proofs.Read.{constant_read}
use Rattle.wasm_operators.proofs.constant.ConstExpr.read.Goals as goal

pub returns-in-Ok-clause-reads : goal.returns-in-Ok-clause-reads
returns-in-Ok-clause-reads c =
    let old = c.args.reader.now in
    let after = c.get_binary_reader-after.result in
    let passed = c.in-Ok.ensures.passed in
    let same = c.new-operators.ensures.reader ∙ c.clone.ensures in
    let size = ap (λ n. n - c.current_position-in-Ok.result) c.current_position.ensures ∙ ap (λ n. after.position - n) c.current_position-in-Ok.ensures in
    let bytes = ap (λ n. take n c.remaining_buffer.result.now) size ∙ ap (take (after.position - old.position)) c.remaining_buffer.ensures in
    let is =
    c.part-constant.ensures ∙ ap (λ o. reader_of old.features o (take (c.current_position.result - c.current_position-in-Ok.result) c.remaining_buffer.result.now))
    c.original_position.ensures in
    constant_read old c.new-operators.result c.pass_constant.new.operators after c.part-constant.result
    (take (c.current_position.result - c.current_position-in-Ok.result) c.remaining_buffer.result.now) same c.new-operators.ensures.fresh passed.0 passed.1
    c.get_binary_reader-after.ensures bytes is

pub returns-clause-reads : goal.returns-clause-reads
returns-clause-reads c = (
  refl,
  subst (λ (r : Reader). IsRefused (EncodesConstantReader r.features) ConstantFault ConstantMayAllocate c.in-Err.e r)
      (c.new-operators.ensures.reader ∙ c.clone.ensures) c.in-Err.ensures.refused,
)
