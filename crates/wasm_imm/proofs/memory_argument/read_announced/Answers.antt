use Rattle.std.proofs.Common.{Ok, Err, refl, ap, subst, ◌∙◌}
use Rattle.wasm_below.specs.Ahead.{ReadsAhead}
use Rattle.wasm_below.specs.Source.{at_position}
use Rattle.wasm_below.proofs.TakesLemmas.{read_to_copy}
use Rattle.wasm_imm.specs.MemoryArgument.{EncodesMemArg}
use Rattle.wasm_imm.specs.MemoryArgumentFaults.{MemArgFault}
use Rattle.wasm_imm.proofs.memory_argument.read_announced.Goals as goal

pub returns-in-Ok : goal.returns-in-Ok
returns-in-Ok c =
    let old = c.args.reader.now in
    let after = c.read_announced_out_of_line.new.reader in
    let read = subst (λ s. ReadsAhead (EncodesMemArg s.features c.args.kind c.args.max_align) (MemArgFault s.features c.args.kind) (Ok c.in-Ok.argument)
    (at_position s c.args.start) after) c.clone-copy.ensures c.in-Ok.ensures in
    read_to_copy (EncodesMemArg old.features c.args.kind c.args.max_align) (MemArgFault old.features c.args.kind) (Ok c.in-Ok.argument) old
    (at_position old c.args.start) after c.set_position.new.self c.args.start refl read
    (c.set_position.ensures ∙ ap (at_position old) c.current_position.ensures)

pub returns-in-Err : goal.returns-in-Err
returns-in-Err c =
    let h = subst (λ s. ReadsAhead (EncodesMemArg s.features c.args.kind c.args.max_align) (MemArgFault s.features c.args.kind) (Err c.in-Err.e)
    (at_position s c.args.start) c.read_announced_out_of_line.new.reader) c.clone-copy.ensures c.in-Err.ensures in
    (c.rewind.ensures, h.0, h.1)
