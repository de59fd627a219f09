use Rattle.std.proofs.Common.{[]}
use Rattle.wasm_imm.specs.BranchTables.{EncodesBranchTable}
use Rattle.wasm_imm.specs.Immediate.{branch_table, is_branch_table}
use Rattle.wasm_decode_opcodes.proofs.KindLemmas.{first_refused, of_branch_table}
use Rattle.wasm_decode_opcodes.proofs.immediates.branch_table.Goals as goal

pub returns-in-Err : goal.returns-in-Err
returns-in-Err c =
    let r = c.args.reader.now in
    first_refused EncodesBranchTable is_branch_table [] branch_table (λ r. ⊥) c.args.start c.in-Err.e r c.read.new.reader c.rewind.new.self (of_branch_table r.features) c.requires c.in-Err.ensures c.rewind.ensures
