use Rattle.std.proofs.Common.{ap, ◌∙◌}
use Rattle.wasm_c.specs.Values.{number_value}
use Rattle.wasm_c.proofs.ValueReads.{constant_at_start, all_remain}
use Rattle.wasm_c.proofs.values.read_constant.Goals as goal

pub returns-in-Ok : goal.returns-in-Ok
returns-in-Ok c =
    let reads = c.in-Ok.ensures.reads in
    let start = constant_at_start c.args.reader.now c.read.new.reader c.in-Ok.constant reads in
    let all = all_remain c.in-Ok.constant c.get_binary_reader-bytes.result c.bytes_remaining.result c.get_binary_reader-bytes.ensures start c.bytes_remaining.ensures in
    (c.in-Ok.constant, reads, c.number.ensures ∙ ap number_value all)
