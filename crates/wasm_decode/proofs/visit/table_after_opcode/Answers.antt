use Rattle.std.proofs.Common.{[], ◌∷◌, None, refl, arith}
use Rattle.wasm_instr.specs.declared.operator.Operator.TheVariants as operator
use Rattle.wasm_imm.specs.Immediate.{branch_table, is_branch_table}
use Rattle.wasm_decode_opcodes.specs.OperatorFaults.{OperatorFault}
use Rattle.wasm_decode_opcodes.proofs.OperatorLemmas.{refuses_free, visited_free}
use Rattle.wasm_decode.proofs.visit.table_after_opcode.Goals as goal

pub returns-in-Ok : goal.returns-in-Ok
returns-in-Ok g c k =
    let r = c.args.reader.now in
    visited_free g.V.Visitor.visits (OperatorFault r.features k) k None 0x0e (is_branch_table ∷ []) (branch_table c.in-Ok.targets ∷ []) c.args.start r
    c.branch_table.new.reader c.args.v.now c.visit_br_table.new.self c.visit_br_table.result refl c.requires
    (operator.BrTable c.in-Ok.targets, refl, refl, refl, c.visit_br_table.ensures) c.in-Ok.ensures

pub returns-in-Err : goal.returns-in-Err
returns-in-Err g c k =
    let r = c.args.reader.now in
    refuses_free g.V.Visitor.visits k None 0x0e (is_branch_table ∷ []) c.args.start c.in-Err.e r c.branch_table.new.reader c.args.v.now ((λ h. cc h), omega arith) refl
    c.requires c.in-Err.ensures
