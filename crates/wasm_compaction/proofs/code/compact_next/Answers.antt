use Rattle.std.proofs.Common.{◌≡◌, ◌∙◌, ap, subst, refl, length, arith}
use Rattle.std.proofs.lemmas.Result.{on_ok_weaker}
use Rattle.wasm_below.specs.declared.message.Message.TheVariants as message
use Rattle.wasm_encode_numbers.specs.Appended.{Appends}
use Rattle.wasm_compaction.specs.Blocks.{EncodesBlock}
use Rattle.wasm_compaction.proofs.Bodies.{body_read, part_below}
use Rattle.wasm_compaction.proofs.Functions.{function_no_longer}
use Rattle.wasm_compaction.proofs.code.compact_next.Goals as goal

pub append_block-requires : goal.append_block-requires
append_block-requires c =
    let le = function_no_longer _ _ _ c.in-Ok-compact_body.ensures.compacts in
    let lt = part_below c.args.reader.now c.read_reader.new.self c.in-Ok.part c.in-Ok.ensures.reads in
    let value = ap length c.as_slice.ensures.value in
    omega (arith, le, lt, value)

pub returns-in-Ok-compact_body-clause-compacts : goal.returns-in-Ok-compact_body-clause-compacts
returns-in-Ok-compact_body-clause-compacts c =
    let block = subst (λ z. Appends EncodesBlock z c.args.out.now.items c.append_block.new.out.items) c.as_slice.ensures.value in
    on_ok_weaker c.append_block.result
    (λ a. body_read c.args.reader.now c.read_reader.new.self c.in-Ok.part c.compact_body.new.out.items c.args.out.now.items c.append_block.new.out.items
    c.in-Ok.ensures.reads c.in-Ok.ensures.placed c.in-Ok-compact_body.ensures.compacts (block a))
    c.append_block.ensures.appends

pub returns : goal.returns
returns c =
    let other : c.in-Err-compact_body.e.message ≡ message.OutOfMemory → ⊥ = λ h. c.in_default.not-OutOfMemory (c.message.ensures ∙ h) in
    record {
      compacts = tt;
      refuses = (refl, c.in-Ok.part, c.read_reader.new.self, c.in-Ok.ensures.reads, other, c.in-Err-compact_body.ensures.refuses);
    }
