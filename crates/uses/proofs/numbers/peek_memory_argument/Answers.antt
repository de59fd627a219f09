use Rattle.wasm_operators.specs.imm.MemoryArgument.{EncodesMemArg}
use Rattle.wasm_operators.specs.imm.MemoryArgumentFaults.{MemArgFault}
use Rattle.wasm_operators.specs.imm.declared.memory_argument.MemArgKind.TheVariants as kind
use Rattle.uses.proofs.Codes.{reads_known, reads_some, fault_known}
use Rattle.uses.proofs.numbers.peek_memory_argument.Goals as goal

pub returns-clause-reads : goal.returns-clause-reads
returns-clause-reads c = λ argument text more parts known.
    let reads = rw c.clone.ensures at c.read.ensures in
    let code = rw c.features.ensures at c.memory_arguments.ensures in
    reads_known (EncodesMemArg c.args.reader.now.features kind.Plain c.args.max_align) (MemArgFault c.args.reader.now.features kind.Plain) c.read.result c.args.reader.now _ argument text more code reads parts known

pub returns-clause-found : goal.returns-clause-found
returns-clause-found c =
    let reads = rw c.clone.ensures at c.read.ensures in
    reads_some (EncodesMemArg c.args.reader.now.features kind.Plain c.args.max_align) (MemArgFault c.args.reader.now.features kind.Plain) c.read.result c.args.reader.now _ reads

pub returns-clause-refused : goal.returns-clause-refused
returns-clause-refused c = λ m offset known.
    let reads = rw c.clone.ensures at c.read.ensures in
    let determines = rw c.features-2.ensures at c.memory_argument_refusals.ensures in
    fault_known (EncodesMemArg c.args.reader.now.features kind.Plain c.args.max_align) (MemArgFault c.args.reader.now.features kind.Plain) c.read.result c.args.reader.now _ m offset determines reads known
