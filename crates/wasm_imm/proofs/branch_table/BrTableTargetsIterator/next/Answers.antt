use Rattle.std.proofs.Common.{◌<◌, length, sym, ap, ◌∙◌, arith}
use Rattle.std.specs.Prelude.{map, Ok}
use Rattle.wasm_below.specs.Source.{rest}
use Rattle.wasm_imm.specs.BranchTables.{numbers_of}
use Rattle.wasm_imm.proofs.BranchTables.{next_target}
use Rattle.wasm_imm.proofs.branch_table.BrTableTargetsIterator.next.Goals as goal

pub invariant_of-self : goal.invariant_of-self
invariant_of-self c = (next_target c.self.inside.reader c.read_var_u32.new.self c.read_var_u32.result c.self.inside.remaining c.read_var_u32.ensures
    c.self.invariant (omega arith)).0

pub returns-clause-steps : goal.returns-clause-steps
returns-clause-steps c =
    let n = next_target c.self.inside.reader c.read_var_u32.new.self c.read_var_u32.result c.self.inside.remaining c.read_var_u32.ensures
    c.self.invariant (omega arith) in
    ap (map Ok) (sym c.self.view_is) ∙ n.1

pub returns-clause-goes : goal.returns-clause-goes
returns-clause-goes c =
    let n = next_target c.self.inside.reader c.read_var_u32.new.self c.read_var_u32.result c.self.inside.remaining c.read_var_u32.ensures
    c.self.invariant (omega arith) in
    let fewer : length (numbers_of (rest c.read_var_u32.new.self)) < length c.args.self.now = omega (arith, n.2, ap length c.self.view_is) in
    record { on = λ f. (tt, tt, fewer); keeps = tt; rests = λ f. tt }
