use Rattle.wasm_imm.specs.declared.memory_argument.MemArgKind.TheVariants as kind
use Rattle.wasm_imm.specs.MemoryArgument.{EncodesMemArg}
use Rattle.wasm_imm.specs.Immediate.{memory_argument, is_memory_argument}
use Rattle.wasm_decode_opcodes.proofs.KindLemmas.{of_memory}
use Rattle.wasm_decode_opcodes.proofs.SequenceLemmas.{one_failed}
use Rattle.wasm_decode_opcodes.proofs.kinds.OpMemArgImmediates.read.Goals as goal

pub returns-in-Err : goal.returns-in-Err
returns-in-Err c =
    let r = c.args.reader.now in
    one_failed (EncodesMemArg r.features kind.Op c.args.bound) (is_memory_argument kind.Op c.args.bound) (memory_argument kind.Op c.args.bound) c.args._start c.in-Err.e r c.read.new.reader (of_memory r.features kind.Op c.args.bound) c.requires c.in-Err.ensures
