use Rattle.std.proofs.Common.{◌<◌, ap, subst, sym}
use Rattle.wasm_operators.specs.grammar.Frames.{innermost}
use Rattle.uses.proofs.SingleSteps.{first_read, first_memory, first_refused}
use Rattle.uses.proofs.single_steps.first_operator.Goals as goal

pub returns : goal.returns
returns c =
    let s = c.new_with_allocs in
    let some : 0 < s.result.room = subst (λ room. 0 < room) (sym s.ensures.room) c.requires in
    let inner = ap innermost s.ensures.fresh in
    record {
      reads = first_read c.read.result c.args.reader s.result c.read.new.self s.ensures.reader inner c.read.ensures;
      memory = first_memory c.read.result c.args.reader s.result c.read.new.self c.memory_asked.ensures.read s.ensures.reader some c.read.ensures;
      none = first_refused c.read.result c.args.reader s.result c.read.new.self s.ensures.reader inner c.read.ensures;
    }
