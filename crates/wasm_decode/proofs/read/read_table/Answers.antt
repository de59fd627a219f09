use Rattle.std.proofs.Common.{◌≡◌, [], ◌∷◌, None, Ok, refl, arith}
use Rattle.wasm_below.specs.Source.{at_position}
use Rattle.wasm_instr.specs.declared.operator.Operator.{Operator}
use Rattle.wasm_instr.specs.declared.operator.Operator.TheVariants as operator
use Rattle.wasm_imm.specs.Immediate.{branch_table, is_branch_table}
use Rattle.wasm_decode_opcodes.specs.Allowed.{EncodesAllowed}
use Rattle.wasm_decode_opcodes.specs.OperatorFaults.{OperatorFault}
use Rattle.wasm_decode_opcodes.proofs.OperatorLemmas.{refuses_free, visited_free}
use Rattle.wasm_decode.proofs.DecodingLemmas.{as_read}
use Rattle.wasm_decode.proofs.read.read_table.Goals as goal

pub returns-in-Ok : goal.returns-in-Ok
returns-in-Ok c k =
    let r = c.args.reader.now in
    let op = operator.BrTable c.in-Ok.targets in
    as_read {V = Unit {0}} (EncodesAllowed r.features k) (OperatorFault r.features k) (at_position r c.args.start) c.branch_table.new.reader tt tt (Ok op)
    (visited_free (λ (v : Unit {0}) (op outcome : Operator) (w : Unit {0}). outcome ≡ op) (OperatorFault r.features k) k None 0x0e (is_branch_table ∷ []) (branch_table c.in-Ok.targets ∷ [])
    c.args.start r c.branch_table.new.reader tt tt op refl c.requires (op, refl, refl, refl, refl) c.in-Ok.ensures)

pub returns-in-Err : goal.returns-in-Err
returns-in-Err c k =
    let r = c.args.reader.now in
    (refuses_free (λ (v : Unit {0}) (op outcome : Operator) (w : Unit {0}). outcome ≡ op) k None 0x0e (is_branch_table ∷ []) c.args.start c.in-Err.e r c.branch_table.new.reader tt
    ((λ h. cc h), omega arith) refl c.requires c.in-Err.ensures).1
