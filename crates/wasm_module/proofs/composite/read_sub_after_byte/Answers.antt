use Rattle.std.proofs.Common.{◌<◌, ◌≤◌, arith}
use Rattle.wasm_module.proofs.Composites.{names_supertypes, with_supertypes_reads}
use Rattle.wasm_module.proofs.composite.read_sub_after_byte.Goals as goal

pub returns-in-79 : goal.returns-in-79
returns-in-79 c =
    let low : 0x4f ≤ c.args.kind = omega arith in
    let high : c.args.kind < 0x51 = omega arith in
    with_supertypes_reads c.args.kind (names_supertypes c.args.kind low high) c.read_with_supertypes.result c.args.reader.now c.read_with_supertypes.new.reader c.read_with_supertypes.ensures
