use Rattle.std.proofs.Common.{refl, ap, ◌∙◌}
use Rattle.wasm_c.specs.Values.{number_value}
use Rattle.wasm_c.proofs.ValueReads.{part_at_start, all_remain}
use Rattle.wasm_c.proofs.values.read_sized.Goals as goal

pub returns-in-Ok : goal.returns-in-Ok
returns-in-Ok c =
    let reads = c.in-Ok.ensures.reads in
    let start = part_at_start c.args.reader.now c.read_reader.new.self c.in-Ok.part reads in
    let all = all_remain c.in-Ok.part c.in-Ok.part c.bytes_remaining.result refl start c.bytes_remaining.ensures in
    (c.in-Ok.part, reads, c.number.ensures ∙ ap number_value all)
